pub mod View
pub mod Arrays
pub mod Stores
pub mod Next
pub mod Ready
