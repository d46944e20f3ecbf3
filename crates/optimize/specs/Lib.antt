-- The specs of optimize.
pub mod Rewrite
pub mod Lut
pub mod Claims
pub mod Cases
