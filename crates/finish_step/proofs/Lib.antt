pub mod Carried
pub mod Chosen
pub mod Moving
