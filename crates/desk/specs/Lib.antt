pub mod Heard
pub mod Shown
