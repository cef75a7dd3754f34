pub mod Sizes
pub mod Search
pub mod Values
pub mod Cells
pub mod Records
pub mod Kept
pub mod Lending
