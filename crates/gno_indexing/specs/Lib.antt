pub mod Counting
pub mod Indexing
