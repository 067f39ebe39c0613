pub mod Patterns
pub mod Flags
pub mod Places
