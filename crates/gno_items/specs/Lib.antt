pub mod Memory
pub mod Replies
pub mod Adding
pub mod Calling
pub mod Well
pub mod Text
pub mod Session
pub mod Index
