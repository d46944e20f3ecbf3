-- The laws of coding.
pub mod Running
pub mod Frame
pub mod Emitting
