-- Lemmas.
pub mod Lent
pub mod OnDisk
pub mod Opened
pub mod OpenedFrames
pub mod Reported
pub mod ServedDoors
pub mod ServedInTurn
pub mod Takings
pub mod TasksOfWords
pub mod Whole
