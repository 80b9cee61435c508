pub mod FinishLaws
pub mod NearLaws
pub mod TakenLaws
