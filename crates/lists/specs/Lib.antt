-- Lists of 16 with a length: what their contracts say, and the laws that proofs over them cite.
pub mod Exact
pub mod Build
pub mod Places
pub mod Find
pub mod Tests
