pub mod Noting
pub mod Stands
pub mod Waiting
pub mod Found
pub mod Answers
