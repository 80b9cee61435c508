pub mod Taken
pub mod Bits
