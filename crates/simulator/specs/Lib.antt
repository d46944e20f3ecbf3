-- The specs of simulator.
pub mod Entry
pub mod Parts
