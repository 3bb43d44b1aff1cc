pub mod Counting
pub mod Writes
