-- What only private clauses and proofs use.
pub mod FilingRuns
pub mod LiveLists
pub mod NotHeld
pub mod PlaceByPlace
pub mod RightOrder
pub mod RightWalk
pub mod Turns
