pub mod Entries
pub mod Tests
pub mod Loops
pub mod Copies
pub mod Writes
pub mod Inserts
pub mod Outcomes
