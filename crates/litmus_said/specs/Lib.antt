pub mod Values
pub mod Saying
