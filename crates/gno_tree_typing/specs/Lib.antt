pub mod WrittenTypes
pub mod Composites
pub mod Judging
