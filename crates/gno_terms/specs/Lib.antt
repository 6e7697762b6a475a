pub mod Exported
pub mod Terms
pub mod Normal
pub mod Lawful
pub mod Texts
pub mod Tables
