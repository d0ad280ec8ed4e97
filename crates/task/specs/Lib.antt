pub mod Places
pub mod Turns
pub mod Iterations
pub mod Results
