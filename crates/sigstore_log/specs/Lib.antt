pub mod Cause
pub mod Entry
pub mod Error
pub mod Inclusion
pub mod Logged
pub mod OnePlace
pub mod Promise
pub mod Signed
