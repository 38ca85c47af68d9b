-- Lemmas.
mod Drawing
mod Receiving
mod WellFormedTurns
