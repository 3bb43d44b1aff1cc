pub mod Content
pub mod Holding
