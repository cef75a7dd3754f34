pub mod AnswerLaws
pub mod Claims
pub mod Sheets
