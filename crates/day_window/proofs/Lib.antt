pub mod Windows
pub mod Saying
pub mod Settled
