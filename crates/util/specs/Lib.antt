-- What util's contracts say beside the rules, and the laws of the rules, entry by entry, that its proofs cite.
pub mod Entries
