pub mod Passing
pub mod Keeping
pub mod Forming
