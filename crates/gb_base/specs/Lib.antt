-- What contracts cite.
pub mod Ascending
pub mod Limits
pub mod Numerals
pub mod Optional
pub mod RightNo
pub mod DayMinute
pub mod Deadlines
pub mod Interest
pub mod Keys
pub mod Calendar
pub mod Texts
pub mod Shares
pub mod inner
