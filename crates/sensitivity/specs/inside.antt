-- What only the proofs rest on.
pub mod Rounds
