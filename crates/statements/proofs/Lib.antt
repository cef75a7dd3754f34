pub mod FieldLaws
pub mod VerbLaws
pub mod SimpleLaws
