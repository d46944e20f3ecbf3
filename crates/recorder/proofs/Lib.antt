-- The laws of recorder that other crates cite.
pub mod Calls
pub mod Events
pub mod Left
pub mod Makes
pub mod Outcomes
pub mod Played
pub mod Reading
pub mod Room
pub mod Roundtrip
pub mod Wrote
