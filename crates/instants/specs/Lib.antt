pub mod Seen
pub mod Goings
