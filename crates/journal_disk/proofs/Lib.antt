-- Lemmas.
pub mod Appends
pub mod Blocks
pub mod Existence
pub mod FrameBytes
pub mod Keeping
pub mod Making
pub mod OnlyRead
pub mod Puts
pub mod Refusing
pub mod Standings
pub mod Torn
