pub mod Calm
pub mod Tracks
pub mod Whole
pub mod Reads
