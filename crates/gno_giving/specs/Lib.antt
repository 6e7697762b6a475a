pub mod Basics
pub mod InTypes
