-- The specs of bits.
pub mod Bits
