pub mod Later
pub mod Settled
