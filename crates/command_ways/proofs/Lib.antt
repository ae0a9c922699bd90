mod Words
pub mod Trusting
pub mod Saying
mod Meaning
pub mod Completing
mod FolderSaying
mod FolderMeaning
mod FolderCompleting
