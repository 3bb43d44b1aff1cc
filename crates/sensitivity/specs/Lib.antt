pub mod Sensitive
pub mod inside
