pub mod Embedding
pub mod Reaching
pub mod Walking
pub mod Nodes
pub mod Same
