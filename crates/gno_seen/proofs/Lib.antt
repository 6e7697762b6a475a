pub mod ConstantTypes
pub mod OfValues
pub mod Others
pub mod Seen
