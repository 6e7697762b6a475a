pub mod Selectors
pub mod Standings
