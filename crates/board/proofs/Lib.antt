pub mod Digests
pub mod Going
pub mod Lines
pub mod Standing
