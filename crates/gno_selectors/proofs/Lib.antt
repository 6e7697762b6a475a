pub mod Lists
pub mod Complete
pub mod Rows
pub mod MembersOfRows
pub mod Standings
pub mod Ways
pub mod Firsts
pub mod Selecting
