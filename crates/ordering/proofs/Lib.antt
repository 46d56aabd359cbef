pub mod Place
pub mod Picks
pub mod Stored
pub mod Heavier
pub mod Alike
pub mod Settled
