pub mod Meaning
pub mod Slots
