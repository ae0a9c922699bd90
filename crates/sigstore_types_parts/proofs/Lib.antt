pub mod EntryFacts
pub mod Entries
pub mod Instants
