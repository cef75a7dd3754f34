pub mod Told
pub mod Filling
