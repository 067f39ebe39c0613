pub mod Judging
pub mod Tabling
pub mod Imported
