pub mod Cycle
pub mod Lending
pub mod Walks
