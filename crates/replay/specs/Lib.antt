pub mod Answers
pub mod Either
pub mod Stores
pub mod inside
