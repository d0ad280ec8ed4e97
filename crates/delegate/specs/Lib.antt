pub mod Groups
pub mod Picks
