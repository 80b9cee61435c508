-- What the contracts of a frame by value say beside the rules.
pub mod Frames
pub mod Unique
