pub mod Scan
pub mod Classes
pub mod Spans
