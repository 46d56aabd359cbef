pub mod Parted
pub mod Here
pub mod Rehearsing
pub mod AtStop
pub mod Settled
