-- The laws of conflict.
pub mod Counts
pub mod Marked
