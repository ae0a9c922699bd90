pub mod Digits
pub mod Distinct
pub mod ReadAgain
