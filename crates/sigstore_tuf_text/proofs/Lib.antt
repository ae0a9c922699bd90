pub mod Floats
pub mod OtherFacts
pub mod Fits
pub mod Unique
pub mod Classes
pub mod Rows
pub mod Patterns
