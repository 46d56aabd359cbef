pub mod Bits
pub mod Ceiling
pub mod Divisor
pub mod Period
