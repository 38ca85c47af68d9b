-- Lemmas.
pub mod Answering
pub mod Fronts
pub mod Openings
pub mod Placing
pub mod Repeats
pub mod ShortSpellings
pub mod Sizes
pub mod Standings
pub mod Taking
