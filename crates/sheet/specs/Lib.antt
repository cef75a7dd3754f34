pub mod Answering
pub mod Claims
