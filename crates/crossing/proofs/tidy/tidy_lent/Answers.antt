-- `crossing::tidy::tidy_lent` makes all heads tidy where a length is over 16. Assumes nothing.
use Rattle.crossing.proofs.TidyLaws.{tidy-none, tidy-some}
use Rattle.crossing.proofs.tidy.tidy_lent.Goals as goal

pub returns-then-not-heads_over : goal.returns-then-not-heads_over
returns-then-not-heads_over c =
    tidy-none c.args.heads.now c.heads_over.result c.heads_over.ensures c.if-not-heads_over.true

pub returns : goal.returns
returns c =
    tidy-some c.args.heads.now _ c.heads_over.result c.heads_over.ensures c.if-not-heads_over.false c.tidy_all.ensures
