pub mod Memory
pub mod Repository
pub mod Store
