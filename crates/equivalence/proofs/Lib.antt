-- The proofs of equivalence.
pub mod Vectors
pub mod Words
pub mod Holding
pub mod Loops
pub mod Outputs
pub mod Driving
pub mod Committing
pub mod Inputs
pub mod Ticking
pub mod Acceptance
pub mod Answering
pub mod Shows
pub mod Demanded
