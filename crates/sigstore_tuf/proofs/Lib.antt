pub mod OverStore
pub mod Wanting
