pub mod Words
pub mod RowPassed
pub mod Stands
pub mod Settled
