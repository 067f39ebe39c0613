pub mod Table
pub mod Instructions
pub mod Lookup
pub mod Offers
pub mod Codes
