pub mod Weights
pub mod Lefts
pub mod Movers
