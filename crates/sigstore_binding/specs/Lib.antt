pub mod Cause
pub mod Checks
pub mod Described
pub mod Envelope
pub mod Rows
pub mod Verifier
