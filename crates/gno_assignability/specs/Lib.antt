pub mod Assignability
