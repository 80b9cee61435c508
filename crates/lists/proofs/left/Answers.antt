-- One entry of a list with one less. Assumes nothing.
use Rattle.std.proofs.Common.{rules, ◌∙◌, ◌+◌, ℕ, sym, ap, add-one, get_or}
use Rattle.rules.specs.Tree.{listed}
use Rattle.lists.specs.Places.{remove_at-before, remove_at-after}
use Rattle.lists.proofs.left.Goals as goal

pub returns-then-p-j : goal.returns-then-p-j
returns-then-p-j g c =
    let a = c.args in
    c.get.ensures ∙ ap (λ d. get_or (listed a.l) (a.j + 1) d) c.blank.ensures ∙ ap (λ (k : ℕ). get_or (listed a.l) k g.T.Blank.blank) (add-one a.j)
    ∙ sym (remove_at-after a.p (listed a.l) a.j g.T.Blank.blank (search rules))

pub returns : goal.returns
returns g c =
    let a = c.args in
    c.get-2.ensures ∙ ap (λ d. get_or (listed a.l) a.j d) c.blank-2.ensures ∙ sym (remove_at-before a.p (listed a.l) a.j g.T.Blank.blank (search rules))
