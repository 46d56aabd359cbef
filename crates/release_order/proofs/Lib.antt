pub mod Touched
pub mod InOrder
pub mod Over
pub mod FromPlan
pub mod Example
