-- Definitions that only private clauses and proofs use.
pub mod Ends
pub mod LinkRounds
pub mod ReplyBodies
pub mod Rounds
pub mod Taking
