pub mod TypeTexts
pub mod Turns
pub mod Known
pub mod Spellings
pub mod Frames
