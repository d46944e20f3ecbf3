-- The specs of hashes.
pub mod Hash
