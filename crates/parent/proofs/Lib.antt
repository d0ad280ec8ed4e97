pub mod Heads
pub mod Top
pub mod Update
pub mod Nested
