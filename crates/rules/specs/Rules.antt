-- The rules, as relations of their own: what an outsider believes, in reading order.
pub mod Operators
pub mod Expressions
pub mod Constraints
pub mod Identities
pub mod Proposals
pub mod Statements
pub mod Runs
pub mod Kept
pub mod Answers
pub mod Entries
pub mod Solvers
