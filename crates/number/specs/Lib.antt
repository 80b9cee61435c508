-- The number that bytes spell, and the laws of binary64 that proofs cite: for any float that is not negative, infinity included.
pub mod Bytes
pub mod Each
pub mod Order
pub mod Rounding
pub mod Arithmetic
pub mod Sums
pub mod Checks
pub mod Owned
