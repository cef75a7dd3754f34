pub mod PathLaws
pub mod TraceLaws
pub mod OperatorLaws
pub mod LeafLaws
pub mod OperandLaws
pub mod EvaluateLaws
pub mod TestLaws
pub mod ConstraintLaws
