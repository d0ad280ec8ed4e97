pub mod Numbers
pub mod Regions
pub mod Tables
