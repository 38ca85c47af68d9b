-- What contracts cite.
pub mod Brings
pub mod Enters
pub mod HasSettled
pub mod HeldKeys
pub mod KeptAwards
pub mod KeptDistributions
pub mod NamesUpTo
pub mod OpenFolios
pub mod RegisterState
pub mod Rooms
pub mod Settling
pub mod StandingAwards
pub mod inner
