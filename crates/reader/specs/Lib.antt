-- The specs of reader.
pub mod Passed
pub mod Checks
