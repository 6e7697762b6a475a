pub mod Parts
pub mod Reading
pub mod Plain
pub mod Differ
