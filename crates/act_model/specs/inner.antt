-- What only private clauses and proofs use.
pub mod CreationOrder
pub mod CureDocuments
pub mod FiledConsents
pub mod Firsts
pub mod Index
pub mod ItemIndexes
pub mod KeyInsertion
pub mod Lists
