pub mod ChainVisits
pub mod Completing
pub mod Offered
pub mod RefreshCompleting
pub mod RootsCompleting
pub mod SearchCompleting
pub mod TargetCompleting
