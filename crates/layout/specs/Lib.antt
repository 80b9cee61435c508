-- What the layout's contracts say beside the rules.
pub mod Whole
pub mod Unique
