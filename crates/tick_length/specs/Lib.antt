pub mod Ticks
pub mod Inner
