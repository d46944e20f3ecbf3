-- The specs of runner.
pub mod Tables
pub mod Calls
pub mod Parts
pub mod Whole
pub mod Plan
pub mod Pieces
