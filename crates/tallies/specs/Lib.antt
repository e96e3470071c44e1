pub mod Laws
pub mod Tallies
