-- Lemmas of this crate's own.
pub mod ComesRound
pub mod HeldLemmas
pub mod ListLemmas
pub mod NextFilings
pub mod PlainConsents
pub mod WaitersLeft
