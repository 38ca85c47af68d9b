-- What contracts cite.
pub mod Dockets
pub mod ItemKeys
pub mod Schedules
pub mod inner
