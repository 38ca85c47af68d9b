-- Lemmas.
pub mod Entered
pub mod Few
pub mod Room
pub mod Steady
