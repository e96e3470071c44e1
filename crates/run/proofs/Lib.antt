pub mod Decisions
pub mod Journals
