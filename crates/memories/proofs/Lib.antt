-- What the proofs of memories share.
pub mod PortLaws
mod WordLaws
mod ReadLaws
mod CellLaws
