pub mod OpenLaws
pub mod AskLaws
pub mod CodeClaims
