pub mod Slices
pub mod Ordering
pub mod Undoing
