pub mod Image
pub mod inside
