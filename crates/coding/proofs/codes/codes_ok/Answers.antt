-- `coding::codes::codes_ok` asks of each head. Assumes nothing.
use mathlib.Core.Path.{refl}
use mathlib.Core.List.{[]}
use Rattle.std.proofs.Common.{rules}
use Rattle.std.proofs.lemmas.List.Recursion.{and_is}
use Rattle.rules.specs.Lists.{all_of}
use Rattle.coding.specs.Lent.{code_ok}
use Rattle.coding.proofs.codes.codes_ok.Goals as goal

pub returns : goal.returns
unfolding all_of
returns c = and_is (all_of code_ok) code_ok refl (λ _ _. refl) c.args.heads.now [] _ (search rules) (search rules)
