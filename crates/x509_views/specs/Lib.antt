pub mod Certificates
pub mod Distinct
pub mod Extensions
pub mod Precertificates
pub mod Scts
pub mod Views
pub mod Walk
