-- What only private clauses and proofs use.
pub mod Behind
pub mod CasesRise
pub mod Computed
pub mod Exchanges
pub mod Listed
pub mod OpenFolios
pub mod RoomToEnter
pub mod SettledTo
pub mod Steps
