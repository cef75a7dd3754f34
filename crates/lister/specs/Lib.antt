pub mod Bytes
pub mod Numerals
pub mod Reading
pub mod Grammar
pub mod Listing
pub mod Sheets
