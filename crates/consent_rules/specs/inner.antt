-- What only private clauses and proofs use.
pub mod Held
pub mod Lacks
pub mod Needed
pub mod WaitersAbove
