-- What the proofs of nodes share.
mod Copied
