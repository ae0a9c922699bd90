pub mod Any
pub mod CauseLaw
pub mod StampedLaw
pub mod TokensLaw
