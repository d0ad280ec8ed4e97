pub mod Endings
pub mod Nested
pub mod Insertions
pub mod Counts
pub mod Turns
