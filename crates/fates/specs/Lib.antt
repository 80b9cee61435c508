-- What the operations promise, and laws of the rules that their proofs cite.
pub mod Theorems
pub mod Spots
pub mod Removal
pub mod Graft
pub mod GraftSplit
pub mod Fates
pub mod Moves
pub mod PaneTheorems
