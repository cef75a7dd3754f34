-- What is claimed of the rules, one statement to a file. The proofs stand in proofs/.
pub mod Answers
pub mod Rules
pub mod Effect
pub mod Acceptance
pub mod Holding
pub mod OneStructure
pub mod Room
pub mod Entries
pub mod Solvers
