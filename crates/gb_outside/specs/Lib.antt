-- What contracts cite.
pub mod Faults
pub mod Bytes
pub mod Images
pub mod Ticks
pub mod Doors
pub mod InMemory
pub mod Recorded
pub mod MemDisks
pub mod Stops
pub mod inner
