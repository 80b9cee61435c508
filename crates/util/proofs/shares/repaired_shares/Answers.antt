-- `util::shares::repaired_shares` asks for the right number, then for a good share. Assumes nothing.
use Rattle.std.proofs.Common.{◌≡◌, sym, ◌∙◌, length, rules, arith}
use Rattle.std.specs.Float.Ieee.{of_bits}
use Rattle.rules.specs.Numbers.{share_ok}
use Rattle.rules.specs.Tree.{reals}
use Rattle.lists.specs.Build.{exactly-is}
use Rattle.lists.specs.Places.{used-length}
use Rattle.util.specs.Entries.{repaired-unlike, repaired-mended, repaired-none}
use Rattle.util.proofs.Words.{any_is}
use Rattle.util.proofs.shares.repaired_shares.Goals as goal
use Rattle.util.proofs.shares.repaired_shares.Goals.{else-shares-count-via-then-shares-count+else-any_good, else-shares-count-via-else-shares-count}

pub returns-then-any_good : goal.returns-then-any_good
returns-then-any_good c =
    let a = c.args in
    let s : length a.shares.at ≡ 16 = search rules in
    let u = used-length a.shares.len a.shares.at (omega arith) in
    exactly-is (repaired-mended a.count (reals a.shares) (u ∙ c.if-shares-count.true) (sym (c.any_good.ensures ∙ any_is share_ok (reals a.shares)) ∙ c.if-any_good.true)) c.mended.ensures

pub returns-else-shares-count : goal.returns-else-shares-count
unfolding of_bits
returns-else-shares-count c =
    let a = c.args in
    let s : length a.shares.at ≡ 16 = search rules in
    let u = used-length a.shares.len a.shares.at (omega arith) in
    elim c.else-shares-count.branch [
      | else-shares-count-via-then-shares-count+else-any_good w ↦ exactly-is (repaired-none a.count (reals a.shares) (u ∙ w.if-shares-count.true) (sym (w.any_good.ensures ∙ any_is share_ok (reals a.shares)) ∙ w.if-any_good.false)) c.repeat.ensures
      | else-shares-count-via-else-shares-count w ↦ exactly-is (repaired-unlike a.count (reals a.shares) (λ e. w.if-shares-count.false (sym u ∙ e))) c.repeat.ensures
    ]
