-- The laws of netlist.
pub mod RecordLaws
pub mod FieldLaws
pub mod WordLaws
pub mod RamLaws
pub mod ReaderFits
