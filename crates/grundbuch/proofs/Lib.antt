-- What the proofs of the program share.
pub mod Hearing
pub mod KnownBytes
pub mod PeerPlaces
