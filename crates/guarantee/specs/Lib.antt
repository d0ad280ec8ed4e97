pub mod Guarantee
pub mod Engine
pub mod Meaning
pub mod Codes
