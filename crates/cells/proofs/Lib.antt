-- The laws of cells that other crates cite.
pub mod Laws
