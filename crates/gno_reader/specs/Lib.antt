pub mod Answers
pub mod Scope
pub mod Constructs
pub mod Lists
pub mod Placed
