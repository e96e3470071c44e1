pub mod Card
pub mod Shown
pub mod History
pub mod Law
pub mod Model
pub mod Determined
pub mod Cells
pub mod Wrong
