pub mod PathFacts
pub mod PlainTexts
pub mod ValueTexts
pub mod ReadAgain
