pub mod Spans
pub mod Settled
