pub mod Array
pub mod inside
