pub mod Tree
pub mod Inclusion
pub mod Climb
pub mod Differing
pub mod Collision
pub mod Error
pub mod Whole
