-- What only private clauses and proofs use.
pub mod PieceRuns
pub mod RankWalk
pub mod Tallies
pub mod TellsPlans
pub mod TextsInTurn
pub mod Waits
pub mod WaitsAt
