pub mod Day
pub mod Spans
