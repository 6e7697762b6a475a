pub mod Usage
pub mod Statuses
pub mod Performing
pub mod Headline
pub mod Given
