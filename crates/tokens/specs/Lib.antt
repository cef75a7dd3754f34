pub mod Bytes
pub mod Codes
pub mod Spelling
pub mod Tokens
pub mod Numbers
pub mod Rules
pub mod Claims
