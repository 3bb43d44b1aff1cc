pub mod Bounding
pub mod Parts
pub mod Keeping
