pub mod Bytes
pub mod Child
pub mod Counts
pub mod Places
pub mod Records
pub mod Results
pub mod Tracked
pub mod Written
