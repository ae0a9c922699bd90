pub mod Authorities
pub mod Cause
pub mod Signer
pub mod Stamp
pub mod Stamped
pub mod Vouched
