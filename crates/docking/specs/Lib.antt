pub mod Trees
pub mod Near
pub mod Steps
