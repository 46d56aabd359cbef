pub mod Parts
pub mod Desk
pub mod Inner
