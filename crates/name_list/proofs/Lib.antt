pub mod Lines
pub mod Compared
pub mod Tallied
pub mod Lists
pub mod Repeated
pub mod Settled
