pub mod NoBothLaw
pub mod Nonce
