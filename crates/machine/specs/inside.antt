-- What only the proofs rest on.
pub mod Holding
pub mod Parts
