pub mod Header
pub mod Texts
