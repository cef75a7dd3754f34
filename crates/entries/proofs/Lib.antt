pub mod LaidLaws
pub mod ReadLaws
pub mod ListLaws
pub mod WholeLaws
pub mod CodeClaims
