-- Definitions that only private clauses and proofs use.
pub mod Heading
pub mod Reading
pub mod Scan
pub mod Writing
