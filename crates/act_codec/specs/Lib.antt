-- What contracts cite.
pub mod Spelling
pub mod Values
pub mod inner
