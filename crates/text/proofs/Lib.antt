-- Appending and Going are for crates above.
pub mod Appending
pub mod Digits
pub mod Going
