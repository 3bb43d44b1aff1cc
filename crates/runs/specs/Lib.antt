pub mod Seen
pub mod Clearing
pub mod inside
