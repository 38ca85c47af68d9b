-- Lemmas.
pub mod RegisterTold
