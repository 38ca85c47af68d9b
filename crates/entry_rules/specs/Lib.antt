-- What contracts cite.
pub mod Entering
pub mod Limits
pub mod inner
