-- What contracts cite.
pub mod FolioQueues
pub mod FolioStates
pub mod Preparing
pub mod RoundRooms
pub mod Rounds
pub mod Turns
pub mod inner
