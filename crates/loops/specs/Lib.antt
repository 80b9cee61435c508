pub mod Padded
pub mod Columns
pub mod Given
