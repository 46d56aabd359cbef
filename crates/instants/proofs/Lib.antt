pub mod Steps
pub mod Scanned
pub mod Next
pub mod Least
pub mod GoingsAt
pub mod GoneOn
pub mod Settled
