-- What contracts cite.
pub mod Plan
pub mod inner
