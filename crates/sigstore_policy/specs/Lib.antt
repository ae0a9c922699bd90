pub mod Certificate
pub mod Conditions
pub mod Matcher
pub mod Pattern
pub mod Piece
pub mod Policy
pub mod PublicKey
