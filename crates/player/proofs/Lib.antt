pub mod Texts
pub mod Plays
pub mod Gives
pub mod Settled
pub mod Room
