pub mod Bundle
pub mod Members
pub mod TrustedRoot
pub mod Written
pub mod Laws
