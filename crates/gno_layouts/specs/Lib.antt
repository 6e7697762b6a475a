pub mod Layouts
pub mod Settling
