pub mod Columns
pub mod Pack
pub mod ColumnLaws
pub mod OverLaws
pub mod PackLaws
pub mod RowLaws
pub mod Shown
