pub mod Inputs
pub mod NameLines
pub mod TableLines
pub mod Answered
pub mod TableBack
pub mod Words
pub mod Settled
