-- The laws of clocking.
pub mod Each
