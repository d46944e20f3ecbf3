-- The laws of ordering.
pub mod Grounds
pub mod Marking
pub mod Looping
pub mod Records
pub mod Fields
pub mod Scans
pub mod Sorted
pub mod Touching
