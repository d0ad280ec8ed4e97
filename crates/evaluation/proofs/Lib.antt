pub mod Lent
pub mod Outcomes
pub mod Sample
