-- The specs of lines.
pub mod Ascii
pub mod Names
pub mod Lines
