pub mod NoneLost
pub mod Settled
