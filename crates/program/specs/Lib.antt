pub mod Forms
pub mod Reading
pub mod Told
pub mod Judge
pub mod Grammar
pub mod Where
pub mod Marking
