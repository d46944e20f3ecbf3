-- The specs of words.
pub mod Words
