-- What private clauses and proofs alone use.
pub mod FilingLists
pub mod KeysAtHand
pub mod Kinds
pub mod Listed
pub mod Marks
pub mod Naming
pub mod PartIndex
pub mod RightsInKeys
pub mod States
pub mod Unnoticed
pub mod Waiters
