pub mod Digits
pub mod Fields
pub mod Words
pub mod Sought
pub mod Written
pub mod WrittenLines
pub mod Settled
