pub mod Settle
pub mod Lone
