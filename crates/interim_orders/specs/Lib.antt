-- What contracts cite.
pub mod Extensions
pub mod Lapses
pub mod Notices
pub mod Orders
pub mod inner
