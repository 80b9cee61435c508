pub mod ReadLaws
pub mod WholeLaws
