pub mod Steps
pub mod Programs
pub mod Guards
pub mod Offers
pub mod Lookups
