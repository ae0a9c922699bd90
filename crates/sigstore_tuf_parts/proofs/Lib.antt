pub mod TextSets
pub mod CountFacts
pub mod MeetsLaw
pub mod IntegrityLaws
pub mod ReadExact
pub mod Steps
pub mod ReadingCauses
pub mod PinCauses
pub mod RoleCauses
mod Examples
pub mod KeyText
pub mod SignedTexts
