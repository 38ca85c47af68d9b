-- What contracts cite.
pub mod Framing
pub mod Heads
pub mod Lines
pub mod Replies
pub mod RequestLists
pub mod RequestParts
pub mod Requests
pub mod Routes
pub mod inner
