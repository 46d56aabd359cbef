pub mod Number
pub mod Line
pub mod Lines
pub mod Word
pub mod Inner
