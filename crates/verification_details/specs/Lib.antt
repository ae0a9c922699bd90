pub mod Statement
pub mod Subject
pub mod Lines
pub mod Details
pub mod Laws
