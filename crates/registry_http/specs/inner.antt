-- Definitions that only private clauses and proofs use.
pub mod Finding
pub mod Framing
pub mod Lines
pub mod Reading
pub mod RowPaths
