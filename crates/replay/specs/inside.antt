-- What needn't be believed: facts with their proofs, which the check asks for.
pub mod Lasting
