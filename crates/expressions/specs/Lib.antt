pub mod Told
pub mod Judging
pub mod Following
pub mod Valuing
