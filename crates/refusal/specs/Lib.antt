-- The specs of refusal.
pub mod Refusal
