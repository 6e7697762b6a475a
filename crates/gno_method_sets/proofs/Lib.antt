pub mod Names
pub mod Selected
pub mod Rows
pub mod Like
pub mod Receivers
pub mod Answered
pub mod Interfaces
