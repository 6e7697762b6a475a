pub mod Stacks
pub mod Firsts
pub mod Rows
pub mod Words
pub mod Shelves
