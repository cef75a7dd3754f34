pub mod Told
pub mod Undoing
pub mod Claims
