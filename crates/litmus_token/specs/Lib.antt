pub mod Classes
pub mod Spans
