pub mod Bits
pub mod Exact
pub mod Gives
pub mod Kinds
