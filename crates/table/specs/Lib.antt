pub mod Reads
pub mod Begins
