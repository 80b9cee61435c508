pub mod PlaceLaws
pub mod TidyLaws
