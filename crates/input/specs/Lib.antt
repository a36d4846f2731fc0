-- in the order in which they are to be read
pub mod Tokens
pub mod Streams
pub mod Filter
pub mod Bytes
pub mod Text
pub mod TokenTypes
pub mod Channels
pub mod Lexemes
pub mod Scanned
pub mod Law
pub mod Examples
-- how the code holds them
pub mod Held
pub mod Lookahead
pub mod Scanner
pub mod Formed
pub mod ScannerFormed
