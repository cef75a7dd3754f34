pub mod TestLaws
pub mod RunLaws
