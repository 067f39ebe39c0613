pub mod Steps
pub mod Heads
pub mod Columns
pub mod Cells
pub mod Turns
pub mod Kept
pub mod Sequence
pub mod Texts
