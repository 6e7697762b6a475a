pub mod Lines
pub mod Words
pub mod Script
pub mod Faults
pub mod Reading
