pub mod Work
pub mod Walked
pub mod Steps
