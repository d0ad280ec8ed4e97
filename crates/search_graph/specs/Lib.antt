pub mod Between
pub mod Calls
