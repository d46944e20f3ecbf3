-- The laws of carry.
pub mod Rows
