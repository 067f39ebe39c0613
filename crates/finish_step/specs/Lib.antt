pub mod Moves
pub mod Finishing
