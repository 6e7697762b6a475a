pub mod NoValues
pub mod Pending
