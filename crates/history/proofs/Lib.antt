pub mod Rights
pub mod Ties
pub mod Counts
pub mod Room
pub mod Simulation
pub mod Determining
pub mod Wrongs
pub mod Refusals
