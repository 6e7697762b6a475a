pub mod OneSession
pub mod Tables
pub mod Charges
pub mod Index
pub mod ValueSteps
pub mod Zeros
