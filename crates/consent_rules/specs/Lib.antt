-- What contracts cite.
pub mod Judging
pub mod Limits
pub mod Persons
pub mod inner
