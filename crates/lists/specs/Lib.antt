pub mod Lists
pub mod Rows
pub mod Below
pub mod Settled
pub mod Tabled
