pub mod Refused
pub mod Answers
pub mod Sheet
pub mod Length
pub mod Exactly
pub mod Settled
