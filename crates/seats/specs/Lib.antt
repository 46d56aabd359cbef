pub mod Seat
pub mod Inner
