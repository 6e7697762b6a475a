pub mod MethodSets
pub mod Searches
pub mod Candidates
