-- What only the proofs rest on.
pub mod Faithful
