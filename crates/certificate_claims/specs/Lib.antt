pub mod ClaimNames
pub mod Claims
pub mod Info
pub mod Names
