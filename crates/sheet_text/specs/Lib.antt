pub mod Job
pub mod Sheet
pub mod Grammar
pub mod Whole
