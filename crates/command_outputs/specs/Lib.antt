pub mod Layout
pub mod Payload
pub mod Concluding
pub mod Run
pub mod Promises
pub mod Complete
