-- The rules of Dimbovala: what every contract cites. docs/RULES.md maps them to the Rust. Definitions, and no proof but that of the marked examples.
pub mod Numbers
pub mod Lists
pub mod Tree
pub mod Shares
pub mod Minima
pub mod Solver
pub mod Tabs
pub mod Repair
pub mod Sound
pub mod Table
pub mod Spec
pub mod Target
pub mod Insert
pub mod Operations
pub mod Frame
pub mod Refusals
pub mod Examples
