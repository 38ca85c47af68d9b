-- What contracts cite.
pub mod CanFill
pub mod CentLine
pub mod Filled
pub mod Groups
pub mod Limits
pub mod Payments
pub mod Relations
pub mod inner
