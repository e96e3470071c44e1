pub mod Cutting
pub mod CutSteps
pub mod Fresh
pub mod Linked
pub mod Places
pub mod Steps
pub mod Ways
