-- The specs of meaning.
pub mod Held
pub mod Settles
pub mod Writes
pub mod Mapped
pub mod Runs
pub mod Shared
