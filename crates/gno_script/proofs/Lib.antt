pub mod FirstLine
pub mod Cuts
pub mod Budgets
pub mod Options
pub mod FirstWords
pub mod Runs
pub mod Fronts
pub mod Progress
