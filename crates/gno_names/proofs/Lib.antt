pub mod Growing
mod Innermost
mod Judged
mod TypeNames
