-- What private clauses and proofs alone cite.
pub mod Lists
pub mod Queues
pub mod Sales
