pub mod Stages
pub mod Accepts
pub mod FirstChecks
pub mod ClaimLaw
pub mod ConditionLaw
pub mod DescribedCauses
pub mod EntryCauses
mod Behind
pub mod EntryLaw
pub mod TokenLaw
pub mod VerifiedLaw
pub mod LogRefusals
mod ReadMaterial
pub mod UsableCauses
pub mod JudgeCauses
pub mod Completing
pub mod KnownArtifact
pub mod Signed
pub mod Agree
pub mod Taken
pub mod Usable
pub mod Wanting
pub mod Within
pub mod OneLogLaw
mod Picking
mod NamesLast
mod SharedNeeds
pub mod Needed
pub mod FirstLaw
pub mod RulesLaw
pub mod RuleCauses
pub mod RulesCompleting
