-- What is proved of the solver's rules, and what its calls hand back past a list's length.
pub mod Loop
pub mod Lent
pub mod Children
pub mod Demand
pub mod Call
