pub mod Stack
pub mod inside
