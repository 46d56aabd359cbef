pub mod State
pub mod Due
pub mod Runs
pub mod Key
pub mod Shape
pub mod Tests
pub mod Inner
