-- What only the proofs rest on.
pub mod Entering
pub mod Making
