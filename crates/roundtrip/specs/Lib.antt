-- The rules of a writer of tables, and what is true of them before there is one.
pub mod Write
pub mod ReadBack
pub mod Written
pub mod Passes
pub mod Renumber
pub mod Renumbered
pub mod RoundTrip
