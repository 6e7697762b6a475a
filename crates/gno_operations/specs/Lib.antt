pub mod Classes
pub mod Folding
