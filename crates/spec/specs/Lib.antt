-- What the contracts of the spec cite, and the laws that its proofs cite.
pub mod Whole
pub mod LoneLaws
