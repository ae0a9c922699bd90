mod AddFacts
pub mod AskedFacts
mod FieldFacts
mod LineFacts
mod ReadFacts
