-- The specs of wires.
pub mod Wires
pub mod Seen
pub mod Expressions
pub mod Once
