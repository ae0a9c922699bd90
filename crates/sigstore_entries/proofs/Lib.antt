pub mod LineFacts
pub mod NumberFacts
pub mod Parted
pub mod Octets
pub mod Found
pub mod NumbersAgain
pub mod ReadAgain
pub mod Plain
