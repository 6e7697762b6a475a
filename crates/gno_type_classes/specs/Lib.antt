pub mod Converting
pub mod Rows
pub mod Unnumbered
