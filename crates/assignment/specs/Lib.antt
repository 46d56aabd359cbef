pub mod Passes
pub mod Load
pub mod Structure
pub mod Inner
pub mod Properties
