pub mod StillLaws
pub mod SoundLaws
pub mod PackedLaws
