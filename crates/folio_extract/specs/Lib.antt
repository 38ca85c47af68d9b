-- What contracts cite.
pub mod CentTexts
pub mod Extracts
pub mod PlanCsv
pub mod PlanTexts
pub mod Plans
pub mod RankTables
pub mod Reports
pub mod Summaries
pub mod VerdictLines
pub mod WaitingFilings
pub mod inner
