pub mod Receiving
pub mod Implementing
