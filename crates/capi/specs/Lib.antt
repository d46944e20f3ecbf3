-- The specs of capi.
pub mod Answer
