pub mod Noting
pub mod Answers
pub mod Growing
pub mod FoundLater
pub mod Least
pub mod Joining
pub mod Inversions
