pub mod Parsing
pub mod Nests
