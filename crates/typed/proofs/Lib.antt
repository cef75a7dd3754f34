pub mod TypedLaws
pub mod Claims
