-- What the proofs share.
pub mod MemDisks
pub mod Moments
pub mod Record
pub mod FilesLeft
