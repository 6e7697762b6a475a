pub mod ChangeLemmas
pub mod FreshKeys
pub mod HeldLemmas
pub mod RowLemmas
pub mod Steps
pub mod TableLemmas
