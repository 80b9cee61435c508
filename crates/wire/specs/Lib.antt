pub mod Bits
pub mod Passing
