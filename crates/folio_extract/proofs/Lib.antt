-- Lemmas.
pub mod CentLines
pub mod ExtractText
pub mod FolioDistributed
pub mod KeptRanks
pub mod MapInOrder
pub mod PieceRuns
pub mod PlansComputed
pub mod PlansTold
pub mod RankTableText
pub mod RankWalks
pub mod ReportTold
pub mod SummaryTold
pub mod Sums
pub mod TextsJoined
pub mod WaitingInOrder
