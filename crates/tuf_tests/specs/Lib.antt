pub mod Lying
