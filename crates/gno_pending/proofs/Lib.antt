pub mod DefaultedChains
pub mod DefaultPairs
pub mod Depths
pub mod GivenChains
pub mod Parts
pub mod PendingForms
pub mod WaitingForms
