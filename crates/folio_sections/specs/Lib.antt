-- What contracts cite.
pub mod Adding
pub mod Cases
pub mod Entries
pub mod Exchanged
pub mod Fronts
pub mod Held
pub mod HeldRights
pub mod Limits
pub mod PartState
pub mod Places
pub mod Rights
pub mod Titles
pub mod Waiting
pub mod inner
