pub mod Laws
pub mod Signed
pub mod AnswerLaws
pub mod BitLaws
