pub mod Follows
pub mod Refusals
pub mod Modules
pub mod Texts
