pub mod Sets
pub mod Statement
pub mod Groups
pub mod Trace
pub mod Always
pub mod Pop
pub mod Passes
