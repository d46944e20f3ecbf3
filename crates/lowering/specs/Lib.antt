-- The specs of lowering.
pub mod Reserve
pub mod Emit
pub mod Lower
pub mod Cases
