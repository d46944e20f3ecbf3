-- The laws of simulator.
pub mod Cells
pub mod Refusals
pub mod Parts
