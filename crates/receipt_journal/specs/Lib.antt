-- What contracts cite.
pub mod BookState
pub mod Opening
pub mod Receiving
pub mod Repeating
pub mod Standing
pub mod inner
