-- The laws of reader.
pub mod PassedLaws
pub mod SectionLaws
