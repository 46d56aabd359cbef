pub mod Write
pub mod Given
