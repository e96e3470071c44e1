pub mod InPlace
pub mod Law
pub mod Reading
pub mod Rule
pub mod Tight
pub mod Times
