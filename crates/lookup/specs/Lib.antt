pub mod Lookups
pub mod Hits
pub mod Answers
