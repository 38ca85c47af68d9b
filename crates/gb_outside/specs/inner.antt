-- What only private clauses and proofs cite.
pub mod Calls
pub mod RecordedLaws
pub mod Remaking
