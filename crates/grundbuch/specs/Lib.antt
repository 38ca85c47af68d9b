-- The definitions that the contracts of the program cite.
pub mod Adapters
pub mod Clock
pub mod Endings
pub mod Extents
pub mod HeldPeers
