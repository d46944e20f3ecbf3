-- The specs of equivalence.
pub mod Settled
pub mod Registers
pub mod Demand
