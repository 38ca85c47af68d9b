-- Lemmas.
pub mod DueBytes
pub mod NextPeers
