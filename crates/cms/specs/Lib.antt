pub mod Attributes
pub mod Building
pub mod Digest
pub mod Error
pub mod Parts
pub mod Signing
