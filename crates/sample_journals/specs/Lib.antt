-- What contracts cite.
pub mod Draws
pub mod Sample
pub mod SampleFilings
pub mod Turns
pub mod inner
