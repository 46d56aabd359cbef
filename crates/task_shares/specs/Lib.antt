pub mod Movers
pub mod Standing
