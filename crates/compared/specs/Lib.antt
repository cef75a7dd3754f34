pub mod Compared
pub mod Answers
