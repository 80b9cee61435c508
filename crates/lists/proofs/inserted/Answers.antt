-- One entry of a list with one more. Assumes nothing.
use Rattle.std.proofs.Common.{rules, ◌≡◌, ◌≤◌, ◌-◌, ◌∙◌, ℕ, sym, ap, arith, length, get_or}
use Rattle.rules.specs.Lists.{insert_at}
use Rattle.rules.specs.Tree.{listed}
use Rattle.lists.specs.Places.{used-length, insert_at-before, insert_at-here, insert_at-past}
use Rattle.lists.proofs.inserted.Goals as goal

pub returns-then-j-p : goal.returns-then-j-p
returns-then-j-p g c =
    let a = c.args in
    let s : length a.l.at ≡ 16 = search rules in
    let h : a.l.len ≤ length a.l.at = omega arith in
    let u = used-length a.l.len a.l.at h in
    c.get.ensures ∙ ap (λ d. get_or (listed a.l) a.j d) c.blank.ensures ∙ sym (insert_at-before a.p a.x (listed a.l) a.j g.T.Blank.blank (omega (arith, u)) (search rules))

pub returns-then-j-p-2 : goal.returns-then-j-p-2
returns-then-j-p-2 g c =
    let a = c.args in
    let s : length a.l.at ≡ 16 = search rules in
    let h : a.l.len ≤ length a.l.at = omega arith in
    let u = used-length a.l.len a.l.at h in
    sym
    (ap (λ (k : ℕ). get_or (insert_at a.p a.x (listed a.l)) k g.T.Blank.blank) c.if-j-p-2.true
    ∙ insert_at-here a.p a.x (listed a.l) g.T.Blank.blank (omega (arith, u)))

pub returns : goal.returns
returns g c =
    let a = c.args in
    let s : length a.l.at ≡ 16 = search rules in
    let h : a.l.len ≤ length a.l.at = omega arith in
    let u = used-length a.l.len a.l.at h in
    c.get-2.ensures ∙ ap (λ d. get_or (listed a.l) (a.j - 1) d) c.blank-2.ensures ∙ sym (insert_at-past a.p a.x (listed a.l) a.j g.T.Blank.blank (omega (arith, u)) (search rules))
