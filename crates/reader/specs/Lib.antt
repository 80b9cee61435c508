-- What the contracts of the table reader cite, and the laws that its proofs cite.
pub mod Bytes
pub mod Section
pub mod SectionLaws
