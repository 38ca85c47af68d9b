-- What private clauses and proofs cite.
pub mod Arrears
pub mod LowestFound
pub mod RightsLeft
pub mod SaleViews
pub mod SalesRead
