pub mod Weight
pub mod Refusals
pub mod Admission
pub mod Words
pub mod Given
pub mod Inner
