-- What contracts cite.
pub mod Kept
pub mod KeptCases
pub mod KeptEntries
pub mod KeptPlaces
pub mod KeptRights
pub mod Ranks
pub mod Standing
