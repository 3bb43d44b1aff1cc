pub mod Counting
pub mod Holding
pub mod Hash
pub mod inside
