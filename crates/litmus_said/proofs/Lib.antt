pub mod Values
pub mod Constants
pub mod Letters
pub mod Saying
