pub mod Choice
pub mod Told
pub mod Inner
