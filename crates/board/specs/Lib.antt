pub mod Runs
pub mod Shown
