-- What the proofs share.
pub mod Names
pub mod Narrow
pub mod NumberTexts
pub mod Parsed
pub mod Said
pub mod Turns
pub mod WidestRead
