-- Scans of the slots in place of walks, and what the parts of an operation answer.
pub mod Find
pub mod Parts
