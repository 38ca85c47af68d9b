-- What contracts cite.
pub mod Disks
pub mod Outcomes
pub mod Receivings
pub mod Servings
pub mod Statuses
pub mod Tasks
pub mod Unread
pub mod inner
