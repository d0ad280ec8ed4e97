pub mod Numbers
pub mod Regions
pub mod Sized
pub mod Tables
pub mod Zeros
