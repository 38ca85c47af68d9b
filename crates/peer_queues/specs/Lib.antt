-- What contracts cite.
pub mod InboxState
pub mod Inboxes
pub mod Queues
pub mod Replying
pub mod Stages
