pub mod Layout
pub mod Output
pub mod Reading
pub mod Run
pub mod Complete
pub mod Check
pub mod CheckRun
pub mod CheckComplete
