pub mod Lateness
pub mod Words
pub mod Inner
