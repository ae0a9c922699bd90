pub mod AnyOf
pub mod Kinds
pub mod OtherNames
pub mod Types
pub mod Views
