-- Theorems that rest on words of specs/ which a must-fail edit changes.
pub mod ApplyExact
pub mod SolveExact
pub mod MoveExact
