-- The laws of lines.
pub mod Marked
pub mod RecordLines
