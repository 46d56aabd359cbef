pub mod Ascii
pub mod Decimal
pub mod Field
pub mod Wrote
pub mod Value
pub mod Refused
pub mod Inner
