-- Definitions that only private clauses and proofs use.
pub mod TextsRead
