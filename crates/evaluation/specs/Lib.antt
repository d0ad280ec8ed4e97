pub mod Workspace
pub mod Outcomes
