pub mod Typing
pub mod Claims
