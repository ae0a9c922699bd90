pub mod Reading
pub mod Rsa
pub mod Spki
pub mod Views
