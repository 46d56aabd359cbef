pub mod Ruled
pub mod RunFacts
pub mod Facts
pub mod Taken
pub mod Ended
pub mod Fresh
pub mod Settled
