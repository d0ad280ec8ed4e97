pub mod Opening
pub mod Lengths
