-- The specs of converter.
pub mod Tables
pub mod Reserves
pub mod Banked
pub mod Members
pub mod Reserved
pub mod BankEmits
pub mod Emits
pub mod Steps
pub mod Entry
