-- What the proofs of lower share.
pub mod Laws
