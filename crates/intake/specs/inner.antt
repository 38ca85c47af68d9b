-- What private clauses and proofs alone use.
pub mod Shown
