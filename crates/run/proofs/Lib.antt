pub mod BeginLaws
pub mod ExactLaws
pub mod WholeLaws
pub mod CodeClaims
