pub mod Complete
pub mod Handed
pub mod Lines
pub mod Means
pub mod Unread
