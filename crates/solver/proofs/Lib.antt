-- What the functions' proofs share.
pub mod Runs
pub mod Solves
