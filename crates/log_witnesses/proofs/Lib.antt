pub mod CosignedLaw
pub mod Judged
pub mod Looking
pub mod Once
