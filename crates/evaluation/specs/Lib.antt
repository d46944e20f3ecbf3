pub mod Consistent
pub mod Bytes
pub mod Ready
pub mod Ticks
pub mod Loads
pub mod Settling
pub mod Late
