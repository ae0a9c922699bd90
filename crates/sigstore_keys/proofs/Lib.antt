pub mod Parts
pub mod SoFar
pub mod Subjects
pub mod Feeding
pub mod Rings
pub mod Schemes
pub mod PublicKeys
pub mod Signers
