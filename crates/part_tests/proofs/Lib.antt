-- Lemmas.
pub mod FillTests
pub mod KeptInGroups
