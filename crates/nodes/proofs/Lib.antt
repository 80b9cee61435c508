pub mod SlotLaws
pub mod FindLaws
pub mod SplitLaws
pub mod GroupLaws
