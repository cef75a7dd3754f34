-- What is shown on the way to the claims, one statement to a file. The proofs stand in proofs/.
pub mod Evaluation
pub mod Holds
pub mod ByVerb
pub mod Holding
pub mod Phases
pub mod PhaseAnswers
pub mod PathsAfter
pub mod IdentitiesAfter
pub mod OneUpdate
pub mod LeastChange
