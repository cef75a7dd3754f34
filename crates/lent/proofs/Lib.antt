pub mod TallyLaws
pub mod LentLaws
pub mod CodeClaims
