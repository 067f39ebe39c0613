pub mod Places
pub mod Shown
pub mod Faults
