pub mod Arrivals
pub mod Fine
