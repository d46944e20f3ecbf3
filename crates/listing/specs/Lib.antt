-- The specs of listing.
pub mod Listing
