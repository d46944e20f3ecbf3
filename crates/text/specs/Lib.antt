-- The specs of text.
pub mod Decimal
pub mod Text
