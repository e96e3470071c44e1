pub mod Versions
pub mod Pruning
pub mod RecordLaw
