pub mod Sets
pub mod Phrases
pub mod Readings
pub mod Readers
pub mod Deciding
pub mod Stops
pub mod Answers
