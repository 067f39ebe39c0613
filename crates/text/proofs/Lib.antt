pub mod Adding
pub mod Decimal
pub mod Listings
pub mod Replied
