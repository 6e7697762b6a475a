pub mod Deeper
pub mod Places
