pub mod Tried
pub mod Passed
pub mod Exactly
pub mod Settled
