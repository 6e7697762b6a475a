pub mod NoValues
pub mod PendingRules
pub mod Values
