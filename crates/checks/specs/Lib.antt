-- What the contracts of the checks cite, and the laws that their proofs cite.
pub mod Entries
pub mod Checks
pub mod CheckLaws
pub mod Walk
pub mod SplitLaws
pub mod LoadLaws
