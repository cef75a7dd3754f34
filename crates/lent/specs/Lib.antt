pub mod Tallied
pub mod Lending
pub mod Claims
