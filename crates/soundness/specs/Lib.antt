pub mod Rules
pub mod Plan
pub mod Inner
