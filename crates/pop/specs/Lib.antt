pub mod Kept
pub mod Popped
pub mod Heads
pub mod Rebased
pub mod Endings
