pub mod Cursors
pub mod Picks
pub mod Turns
