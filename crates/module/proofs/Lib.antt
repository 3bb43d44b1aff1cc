pub mod Following
pub mod Exact
pub mod Again
mod Fresh
pub mod Places
pub mod Locals
pub mod Functions
