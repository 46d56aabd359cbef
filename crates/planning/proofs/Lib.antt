pub mod Agreed
pub mod Answer
pub mod Filling
pub mod Settled
