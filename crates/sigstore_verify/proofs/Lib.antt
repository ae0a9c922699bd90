pub mod RootFacts
pub mod RootCauses
pub mod RootCompleting
pub mod RootPromises
pub mod ByRulesPromise
mod Told
pub mod ToldLaw
mod OnlyTop
mod Digests
mod Entries
mod OneContent
pub mod OnePlaceLaw
