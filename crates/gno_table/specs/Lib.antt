pub mod Rows
pub mod FirstFormat
pub mod Sources
pub mod Loading
pub mod Reading
