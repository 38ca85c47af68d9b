-- What contracts cite.
pub mod Appending
pub mod FrameAt
pub mod Layout
pub mod LogState
pub mod Opening
pub mod Standing
pub mod inner
