mod Joining
mod Operators
pub mod Pendings
mod Seen
pub mod WaitingGrows
mod Working
