pub mod Beyond
pub mod Progress
pub mod Clear
pub mod Turns
pub mod Staying
pub mod Locals
pub mod Newest
