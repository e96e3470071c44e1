pub mod Edits
pub mod Moments
pub mod Leases
pub mod Finishing
pub mod Calls
