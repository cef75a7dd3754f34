pub mod UndoLaws
pub mod FormLaws
pub mod ProposalLaws
pub mod CodeClaims
