pub mod Bytes
pub mod Keywords
pub mod Faults
pub mod Lines
pub mod Recordings
pub mod Printed
pub mod Answers
