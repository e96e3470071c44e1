pub mod Walk
pub mod Meaning
