-- What contracts cite.
pub mod SettledBookState
pub mod Texts
pub mod inner
