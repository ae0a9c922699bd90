pub mod Pem
pub mod Written
pub mod Laws
