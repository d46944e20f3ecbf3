-- The laws of wires that other crates cite.
pub mod Laws
pub mod OnMap
pub mod OnceLaws
pub mod Vectors
