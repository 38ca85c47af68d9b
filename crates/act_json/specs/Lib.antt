-- What contracts cite.
pub mod Reading
pub mod Dates
pub mod Grammar
pub mod Lines
pub mod inner
