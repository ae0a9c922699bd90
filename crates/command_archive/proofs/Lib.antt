pub mod NamedValues
mod JsonTokens
mod JsonTexts
mod DelegatedNames
mod VisitNames
mod Offered
mod Saying
mod Completing
mod Never
mod Ending
mod RunEnding
mod CheckSaying
mod CheckMeaning
mod CheckCompleting
