-- The laws of runner.
pub mod Models
pub mod Copies
pub mod Tick
pub mod Showing
pub mod Ticking
pub mod Call
pub mod Running
pub mod WholeList
pub mod Refusing
pub mod Pieces
pub mod Lagging
pub mod Along
pub mod Listing
pub mod Planning
pub mod Turns
pub mod Works
