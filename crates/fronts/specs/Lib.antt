pub mod Front
pub mod Inner
