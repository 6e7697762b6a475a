pub mod ErrorParts
pub mod Kept
