-- `keeping::splits::split_noted` notes the minima, then the shares. Assumes nothing.
use mathlib.Core.Path.{ap, ◌∙◌}
use mathlib.Core.Bool.{not}
use native.Mathlib.Omega.{arith}
use Rattle.rules.specs.Shares.{eq_reals}
use Rattle.rules.specs.Tree.{reals}
use Rattle.melting.proofs.SplitLaws.{bad-noted}
use Rattle.keeping.proofs.splits.split_noted.Goals as goal

pub note_action_if-requires : goal.note_action_if-requires
note_action_if-requires c =
    omega (arith, c.note_action_if-m.ensures.most, c.requires.listing)

pub returns : goal.returns
returns c =
    let k = c.args.k in
    let l = c.args.l in
    bad-noted c.args.id k l _ _ _ _ _ _ _ _
    (ap not (c.eq_reals-fine.ensures ∙ (λ i. eq_reals (c.compact_constraints-compact.ensures.list i) (reals k.minima))))
    (ap not c.eq_reals-same.ensures)
    c.note_action_if-m.ensures
    c.note_action_if.ensures
