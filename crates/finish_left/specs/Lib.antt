pub mod Weight
pub mod Left
pub mod Mover
