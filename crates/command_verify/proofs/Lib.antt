mod Meaning
mod Digests
pub mod ReportThere
mod RunFacts
mod RunCompleting
