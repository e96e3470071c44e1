pub mod Views
pub mod Owners
pub mod Writes
pub mod Fresh
pub mod Falls
pub mod Order
