pub mod CountingRules
pub mod IndexRules
pub mod Made
