pub mod Content
pub mod Error
pub mod Identifiers
pub mod NoBoth
pub mod Request
pub mod Response
pub mod Types
