pub mod LaterBasics
pub mod StandingForms
pub mod Defaults
