pub mod WholeLaws
