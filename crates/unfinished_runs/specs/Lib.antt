pub mod Inner
pub mod Left
