-- The specs of cells.
pub mod Cells
pub mod Answers
