pub mod Ran
pub mod Rows
pub mod Settled
