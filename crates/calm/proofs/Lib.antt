pub mod Laws
pub mod NodeLaws
pub mod ListLaws
