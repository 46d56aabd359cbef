pub mod Held
pub mod Plans
pub mod Taken
pub mod Words
pub mod Settled
