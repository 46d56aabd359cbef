pub mod Plan
pub mod Kept
pub mod Shape
pub mod Tasks
