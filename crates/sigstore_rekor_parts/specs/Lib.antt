pub mod Error
pub mod Hex
pub mod Members
pub mod HashedRekord
pub mod Dsse
pub mod Intoto
pub mod Body
pub mod Armored
