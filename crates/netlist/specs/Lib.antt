-- The specs of netlist.
pub mod Netlist
pub mod Kinds
pub mod Reader
pub mod Fields
pub mod Placed
pub mod Shape
pub mod ReaderLaws
pub mod ReaderChecks
pub mod Records
pub mod Cases
