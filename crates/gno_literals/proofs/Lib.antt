pub mod Escaping
pub mod IntegerForms
pub mod Lines
pub mod OneConstant
pub mod OneValue
pub mod Reading
pub mod Runes
pub mod Spelling
