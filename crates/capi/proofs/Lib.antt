-- The laws of capi.
pub mod Handing
