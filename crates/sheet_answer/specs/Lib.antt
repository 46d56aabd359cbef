pub mod Input
pub mod Answers
pub mod Inner
