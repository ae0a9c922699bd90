pub mod Adding
mod Counting
mod Items
pub mod Placing
pub mod Supplied
mod RunEnding
