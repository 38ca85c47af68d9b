-- Lemmas.
pub mod Parsed
pub mod Read
pub mod Rules
pub mod Turns
pub mod Walking
pub mod WordForms
