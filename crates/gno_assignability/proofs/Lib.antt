pub mod FormsOfRows
pub mod Basics
pub mod Assigning
