-- The laws of settle's tests.
pub mod Loop
