pub mod Records
pub mod inside
