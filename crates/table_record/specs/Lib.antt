pub mod Given
pub mod Enter
