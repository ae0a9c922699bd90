pub mod LineFacts
pub mod BlockFacts
pub mod WrittenFacts
pub mod Readings
pub mod Strict
