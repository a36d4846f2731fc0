pub mod Splits
pub mod Reading
pub mod Prints
pub mod Listings
pub mod Answering
