pub mod Events
pub mod Settled
