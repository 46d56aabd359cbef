pub mod Letters
pub mod Ends
pub mod Written
pub mod Parts
pub mod Settled
