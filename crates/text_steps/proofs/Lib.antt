pub mod Notation
pub mod Shown
pub mod Samples
