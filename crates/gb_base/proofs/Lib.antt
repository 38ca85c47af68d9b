-- What the proofs share.
pub mod AfterFirst
pub mod Ascending
pub mod CivilDays
pub mod CountedOff
pub mod DateTexts
pub mod Fronts
pub mod Members
pub mod SameRights
pub mod Sharing
pub mod Weekdays
