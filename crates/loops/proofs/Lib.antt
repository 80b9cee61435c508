pub mod Words
pub mod Loops
pub mod Filling
pub mod Work
pub mod Reading
