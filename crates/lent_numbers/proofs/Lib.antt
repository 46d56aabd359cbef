pub mod Settled
pub mod Sets
