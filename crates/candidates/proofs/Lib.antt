pub mod Merging
pub mod Parts
pub mod Loops
