-- Theorems about the rules of a spec: the table's tiles are a forest, each tile and each pane stands in it once, and what is accepted is sound.
pub mod Sprout
pub mod Once
pub mod Standing
pub mod Accepted
