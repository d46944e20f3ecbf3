-- The laws of bits, and of options.
pub mod Options
pub mod TableBits
