pub mod Host
pub mod Dispatcher
pub mod Inner
