pub mod Entering
pub mod Fitting
pub mod More
pub mod Holding
pub mod Turns
pub mod Beginning
pub mod Files
