pub mod Laws
pub mod Succession
