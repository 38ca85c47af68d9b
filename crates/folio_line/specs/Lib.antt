-- What contracts cite.
pub mod AllRights
pub mod Exchanges
pub mod FolioLine
pub mod FolioReading
pub mod FolioRights
pub mod FolioSlots
pub mod RightRanks
pub mod inner
