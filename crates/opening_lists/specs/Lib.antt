-- What contracts cite.
pub mod OpeningLists
pub mod inner
