pub mod Lines
pub mod Reads
pub mod Notes
pub mod Seen
pub mod Holds
pub mod Believing
