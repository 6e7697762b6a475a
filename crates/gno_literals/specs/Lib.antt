pub mod Digits
pub mod EscapeValues
pub mod Literals
pub mod Parts
