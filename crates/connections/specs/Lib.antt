-- What contracts cite.
pub mod Answering
pub mod Answers
pub mod Asking
pub mod Completeness
pub mod DoorOrder
pub mod Doors
pub mod Fates
pub mod Holding
pub mod LinkOrder
pub mod Replies
pub mod Served
pub mod Serving
pub mod Tools
pub mod Turns
pub mod inner
