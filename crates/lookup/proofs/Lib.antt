pub mod Uses
pub mod Hits
