pub mod Window
pub mod inside
