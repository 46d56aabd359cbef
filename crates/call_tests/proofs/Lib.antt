pub mod InPlace
pub mod Settled
