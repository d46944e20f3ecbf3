-- What the proofs of address_mux share.
pub mod Binds
pub mod Levels
pub mod Addresses
