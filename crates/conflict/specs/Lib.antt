-- The specs of conflict.
pub mod Conflicts
pub mod Counting
