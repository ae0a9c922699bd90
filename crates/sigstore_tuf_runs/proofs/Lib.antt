pub mod Lift
pub mod Searched
pub mod Steps
