pub mod State
pub mod Finished
