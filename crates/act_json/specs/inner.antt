-- What only private clauses and proofs cite.
pub mod Helpers
pub mod Parsing
pub mod Values
