pub mod Allowed
pub mod Making
pub mod View
pub mod Calls
