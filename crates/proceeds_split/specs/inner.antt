-- What private clauses and proofs alone cite.
pub mod Parts
pub mod Payments
pub mod RightsPaid
pub mod Runs
