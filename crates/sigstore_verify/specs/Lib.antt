pub mod ByDigests
pub mod ByRules
pub mod Cause
pub mod Complete
pub mod FromRoot
pub mod Inputs
pub mod OnePlace
pub mod Promises
