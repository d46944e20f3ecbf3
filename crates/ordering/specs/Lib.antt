-- The specs of ordering.
pub mod Order
pub mod Marks
pub mod Words
pub mod Sorts
pub mod Loops
