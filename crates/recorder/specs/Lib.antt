-- The specs of recorder.
pub mod Record
pub mod Writer
pub mod Lists
pub mod Calls
pub mod Evaluate
pub mod Meaning
pub mod Read
pub mod Words
pub mod Standing
pub mod Outcome
pub mod Records
