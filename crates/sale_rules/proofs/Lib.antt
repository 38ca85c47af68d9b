-- Lemmas.
pub mod AwardEntered
pub mod AwardGiven
pub mod AwardedRights
pub mod Brought
pub mod CallsAsKept
pub mod CaseCounts
pub mod FoundAsKept
pub mod RightsInTurn
pub mod SalesFound
pub mod ViewedSales
