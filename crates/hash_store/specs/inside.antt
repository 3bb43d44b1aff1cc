-- What only the proofs rest on.
pub mod Probing
pub mod Laws
