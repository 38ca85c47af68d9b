-- What private clauses and proofs cite.
pub mod Parsing
