pub mod MendLaws
