pub mod Arrays
pub mod Folds
pub mod Joins
pub mod Tables
pub mod Telling
