pub mod Oid
pub mod Strings
pub mod TimeLaws
pub mod Times
pub mod Unsigned
