-- `checks::validate::check_split`: the checks of a split in their order. Assumes nothing.
use Rattle.std.proofs.Common.{ap, sym, ◌∙◌}
use Rattle.lists.specs.Find.{place_of}
use Rattle.table.specs.Rows.{reals_at}
use Rattle.checks.specs.Entries.{reals-part}
use Rattle.checks.specs.CheckLaws.{part_length}
use Rattle.checks.specs.SplitLaws.{split-shares, split-share, split-many, split-minimum, split_good}
use Rattle.checks.proofs.validate.check_split.Goals as goal

pub returns-then-n-ns : goal.returns-then-n-ns
returns-then-n-ns c =
    let a = c.args in
    let x = part_length (reals_at a.b.now a.t.shares) a.taken.shares a.ns (reals-part a.b.now a.t.shares a.taken.shares a.ns c.requires.shares) in
    let y = part_length (reals_at a.b.now a.t.minima) a.taken.minima a.nm (reals-part a.b.now a.t.minima a.taken.minima a.nm c.requires.minima) in
    split-shares a.n a.ns a.nm _ _ x y c.if-n-lt2.false c.if-n-ns.true

pub returns-in-Some : goal.returns-in-Some
returns-in-Some c =
    let a = c.args in
    let x = part_length (reals_at a.b.now a.t.shares) a.taken.shares a.ns (reals-part a.b.now a.t.shares a.taken.shares a.ns c.requires.shares) in
    let y = part_length (reals_at a.b.now a.t.minima) a.taken.minima a.nm (reals-part a.b.now a.t.minima a.taken.minima a.nm c.requires.minima) in
    split-share a.n a.ns a.nm _ _ x y c.if-n-lt2.false c.if-n-ns.false c.in-Some.index (ap place_of (sym c.in-Some.is) ∙ c.first_bad.ensures)

pub returns-then-n-nm : goal.returns-then-n-nm
returns-then-n-nm c =
    let a = c.args in
    let x = part_length (reals_at a.b.now a.t.shares) a.taken.shares a.ns (reals-part a.b.now a.t.shares a.taken.shares a.ns c.requires.shares) in
    let y = part_length (reals_at a.b.now a.t.minima) a.taken.minima a.nm (reals-part a.b.now a.t.minima a.taken.minima a.nm c.requires.minima) in
    split-many a.n a.ns a.nm _ _ x y c.if-n-lt2.false c.if-n-ns.false (ap place_of (sym c.in_default.is) ∙ c.first_bad.ensures) c.if-n-nm.true

pub returns-in-Some-first_bad : goal.returns-in-Some-first_bad
returns-in-Some-first_bad c =
    let a = c.args in
    let x = part_length (reals_at a.b.now a.t.shares) a.taken.shares a.ns (reals-part a.b.now a.t.shares a.taken.shares a.ns c.requires.shares) in
    let y = part_length (reals_at a.b.now a.t.minima) a.taken.minima a.nm (reals-part a.b.now a.t.minima a.taken.minima a.nm c.requires.minima) in
    split-minimum a.n a.ns a.nm _ _ x y c.if-n-lt2.false c.if-n-ns.false (ap place_of (sym c.in_default.is) ∙ c.first_bad.ensures) c.if-n-nm.false c.in-Some-first_bad.index
    (ap place_of (sym c.in-Some-first_bad.is) ∙ c.first_bad-2.ensures)

pub returns : goal.returns
returns c =
    let a = c.args in
    let x = part_length (reals_at a.b.now a.t.shares) a.taken.shares a.ns (reals-part a.b.now a.t.shares a.taken.shares a.ns c.requires.shares) in
    let y = part_length (reals_at a.b.now a.t.minima) a.taken.minima a.nm (reals-part a.b.now a.t.minima a.taken.minima a.nm c.requires.minima) in
    split_good a.n a.ns a.nm _ _ x y c.if-n-lt2.false c.if-n-ns.false (ap place_of (sym c.in_default.is) ∙ c.first_bad.ensures) c.if-n-nm.false
    (ap place_of (sym c.in_default-first_bad.is) ∙ c.first_bad-2.ensures)
