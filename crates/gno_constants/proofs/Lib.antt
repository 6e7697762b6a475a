pub mod Complements
pub mod Defined
pub mod Folding
pub mod Places
pub mod Shifts
