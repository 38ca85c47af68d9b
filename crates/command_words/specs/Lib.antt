-- What contracts cite.
pub mod CommandTable
pub mod Words
pub mod inner
