-- The specs of coding.
pub mod Coded
pub mod Emitting
