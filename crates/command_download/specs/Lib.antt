pub mod Layout
pub mod Shelf
pub mod Client
pub mod Chains
pub mod Report
pub mod Run
pub mod Promises
