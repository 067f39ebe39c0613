pub mod Forms
pub mod Entered
