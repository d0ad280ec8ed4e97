pub mod Blocks
pub mod AtIndex
pub mod Copied
pub mod Steps
pub mod Frame
pub mod Entry
pub mod Work
