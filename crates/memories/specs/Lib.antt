-- The specs of memories.
pub mod Memories
pub mod Rams
pub mod Steps
