pub mod Entries
pub mod Matches
pub mod Inserts
