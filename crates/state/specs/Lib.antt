pub mod Matched
pub mod Stored
pub mod View
pub mod Steps
