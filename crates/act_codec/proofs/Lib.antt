-- Lemmas.
pub mod Again
pub mod Lengths
mod Loop
