-- `tests::minima_ok` is std's word of it, and the rules'. Assumes nothing.
use Rattle.std.proofs.Common.{◌∙◌, take, rules, tests}
use Rattle.std.proofs.lemmas.Iterator.{YieldsList-from_slice}
use Rattle.std.proofs.lemmas.Iterator.Search.{all_from_yields_List}
use Rattle.rules.specs.Numbers.{minimum_ok}
use Rattle.loops.proofs.Words.{all-is}
use Rattle.loops.proofs.tests.minima_ok.Goals as goal

pub returns : goal.returns
returns c =
    let xs = take c.args.n c.args.xs.now in
    all_from_yields_List minimum_ok _ _ _ c.all.ensures.ran (YieldsList-from_slice xs (cc)) (λ x b q k. search (rules, tests)) ∙ all-is minimum_ok xs
