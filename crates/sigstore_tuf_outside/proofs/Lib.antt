pub mod Components
pub mod Files
