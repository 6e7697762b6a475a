pub mod Complete
pub mod Fronts
pub mod Memories
pub mod Named
pub mod Running
pub mod Stopped
pub mod ThreeWords
