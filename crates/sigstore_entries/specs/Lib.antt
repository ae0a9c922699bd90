pub mod Numbers
pub mod Checkpoint
pub mod Entry
pub mod Promise
pub mod Laws
pub mod Writing
pub mod Written
