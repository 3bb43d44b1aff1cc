pub mod Enterable
pub mod First
pub mod inside
