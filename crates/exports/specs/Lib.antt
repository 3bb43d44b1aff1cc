pub mod Answers
pub mod Stores
pub mod Runs
pub mod Orders
pub mod inside
