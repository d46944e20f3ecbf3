-- The laws of fusing.
pub mod Joining
pub mod Finding
pub mod Filling
