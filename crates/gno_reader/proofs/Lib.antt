pub mod Shown
pub mod Turns
pub mod Lists
pub mod FirstKinds
pub mod Built
