pub mod Oldest
pub mod Passed
pub mod Waits
pub mod Settled
