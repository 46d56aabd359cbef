pub mod Limits
pub mod Units
pub mod Refusals
