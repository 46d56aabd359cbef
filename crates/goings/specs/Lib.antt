pub mod Going
pub mod Rows
pub mod Inner
