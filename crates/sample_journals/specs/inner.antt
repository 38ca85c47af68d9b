-- What private clauses and proofs alone use.
pub mod FirstReceipts
pub mod KnownBefore
