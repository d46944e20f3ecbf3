-- The laws of optimize; Muxes, Luts and LutCount are for crates above.
mod Pick
mod Halves
mod Table
mod Lutlaws
pub mod TableBits
pub mod Muxes
pub mod Luts
pub mod LutCount
