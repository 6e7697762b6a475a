pub mod AssertionRules
pub mod ConversionRules
pub mod PointerRules
