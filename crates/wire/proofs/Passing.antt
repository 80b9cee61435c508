-- A reader that goes on, and goes on again, has gone on.
use Rattle.std.proofs.Common.{ℕ, List, ◌++◌}
use Rattle.std.specs.declared.option.Option.{Option}
use Rattle.std.proofs.KnownBytes.{Consumes-trans}
use Rattle.wire.specs.Passing.{Passes}

pub passes-more : (a b c : Option (List ℕ)) → Passes a b → Passes b c → Passes a c
passes-more a b c p q = (p.0 ++ q.0, Consumes-trans a b c p.0 q.0 p.1 q.1)
