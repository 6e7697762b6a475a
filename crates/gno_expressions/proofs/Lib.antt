pub mod Turns
pub mod Loops
pub mod LevelSets
pub mod Built
