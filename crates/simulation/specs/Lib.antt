-- The specs of simulation.
pub mod Wellformed
pub mod Tick
pub mod Run
pub mod Sound
pub mod Settled
pub mod Kept
pub mod Cases
pub mod Index
pub mod Model
pub mod Fault
pub mod Shown
