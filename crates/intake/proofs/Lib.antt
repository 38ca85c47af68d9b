-- Lemmas.
pub mod Acknowledged
pub mod Blocks
pub mod Durable
pub mod EarlyEnds
pub mod LineRequests
pub mod OneRequest
pub mod Replies
pub mod RowsAnswered
pub mod SessionInputs
pub mod TakenItems
pub mod Written
pub mod WrittenFrames
