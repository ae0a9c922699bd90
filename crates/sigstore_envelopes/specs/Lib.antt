pub mod Envelope
pub mod Encoding
pub mod Statement
pub mod Written
pub mod Laws
