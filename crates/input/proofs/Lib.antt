pub mod Formed
pub mod Closing
pub mod Words
pub mod Front
pub mod Scanning
pub mod Rules
pub mod Lawful
pub mod Only
