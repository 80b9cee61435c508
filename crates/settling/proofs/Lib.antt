pub mod LoneLaws
pub mod StartLaws
pub mod PlainLaws
pub mod SettleLaws
