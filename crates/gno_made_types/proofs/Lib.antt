pub mod InterfaceRules
pub mod MadeTypes
pub mod PartRules
