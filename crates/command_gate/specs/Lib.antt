pub mod Complete
pub mod Layout
pub mod Lines
pub mod Run
