pub mod Keys
pub mod RowTypes
pub mod Holding
pub mod Laid
