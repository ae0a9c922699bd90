pub mod Loops
pub mod Members
pub mod Outcomes
pub mod Placing
pub mod Sorting
