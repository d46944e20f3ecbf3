-- The proofs of forms.
pub mod Slots
pub mod Quiets
pub mod Aims
pub mod Counting
pub mod Fits
pub mod FitCells
pub mod FitRams
pub mod FitLower
pub mod Suiting
pub mod Sounds
