-- The specs of address_mux.
pub mod AddressMux
pub mod Candidates
pub mod Address
