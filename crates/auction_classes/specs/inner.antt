-- What private clauses and proofs alone cite.
pub mod CaseSales
pub mod ClaimLists
pub mod ClaimRows
pub mod ClaimsRoom
pub mod Covers
pub mod Findings
pub mod InterestLimits
pub mod LinesRead
pub mod Readings
pub mod WholeBids
