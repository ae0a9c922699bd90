pub mod Checks
pub mod CauseLaw
pub mod DescribesLaw
