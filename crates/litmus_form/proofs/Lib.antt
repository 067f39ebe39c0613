pub mod Codes
pub mod Alives
pub mod Alive
pub mod Places
