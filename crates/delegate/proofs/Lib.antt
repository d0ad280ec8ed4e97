pub mod Groups
pub mod Tracking
pub mod Picks
