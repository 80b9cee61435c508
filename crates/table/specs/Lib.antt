-- What the contracts of the table cite, and the laws that its proofs cite.
pub mod Row
pub mod Taken
pub mod RowLaws
pub mod Sections
pub mod SectionLaws
pub mod Rows
pub mod RowsLaws
pub mod RowsLoop
