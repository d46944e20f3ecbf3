-- The laws of listing.
pub mod Left
