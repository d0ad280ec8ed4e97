pub mod Fits
pub mod Headers
pub mod Sizes
pub mod Slots
