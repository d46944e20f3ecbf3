-- The specs of lower.
pub mod Entry
