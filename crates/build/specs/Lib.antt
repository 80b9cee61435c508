-- What the contracts of the building cite, and the laws that its proofs cite.
pub mod Push
pub mod PushLaws
pub mod PushLoop
pub mod Slots
pub mod SlotLaws
pub mod SlotsLoop
pub mod BareLaws
