-- Lemmas.
pub mod Marking
pub mod Noticing
pub mod Room
