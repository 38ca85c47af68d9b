-- What contracts cite.
pub mod Answered
pub mod EarlyEnds
pub mod Faults
pub mod Grown
pub mod Intakes
pub mod Lines
pub mod Receivers
pub mod Requests
pub mod Sessions
pub mod Writing
pub mod inner
