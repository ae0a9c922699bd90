pub mod Archive
pub mod Cause
pub mod Error
pub mod Grammar
pub mod Judgement
pub mod Laws
pub mod Searching
pub mod Spelling
