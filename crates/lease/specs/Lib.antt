pub mod Card
pub mod Counting
pub mod Shown
pub mod Times
pub mod Tokens
