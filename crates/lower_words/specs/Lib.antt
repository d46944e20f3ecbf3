-- The specs of lower_words.
pub mod Entry
