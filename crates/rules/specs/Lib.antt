pub mod Types
pub mod Keeping
pub mod Judging
pub mod Faults
pub mod Texts
pub mod inside
