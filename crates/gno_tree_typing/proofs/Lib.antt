pub mod RuleForms
pub mod ExprForms
pub mod RuleOnes
pub mod Forms
pub mod ExprOnes
