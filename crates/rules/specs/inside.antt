-- What only the proofs rest on.
pub mod Judged
pub mod Rows
