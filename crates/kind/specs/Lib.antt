pub mod Kinds
pub mod Undoing
pub mod Tables
