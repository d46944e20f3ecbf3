-- What each emitter's records mean, up to the whole model.
pub mod Settling
pub mod Standing
pub mod BitReads
pub mod Tree
pub mod Equations
pub mod Registers
pub mod Writing
pub mod Reserving
pub mod Placing
pub mod Owned
pub mod Memories
pub mod Plains
pub mod ReadOnce
pub mod Whole
pub mod OwnRecords
pub mod Anew
