-- `columns::unpack::heads_over`: std's `any` is the rules' `any_of`. Assumes nothing.
use Rattle.std.proofs.Common.{rules, ◌∙◌}
use Rattle.std.proofs.lemmas.Iterator.{YieldsList-from_slice}
use Rattle.std.proofs.lemmas.Iterator.Search.{any_from_yields_List}
use Rattle.columns.specs.Pack.{over_head}
use Rattle.columns.specs.OverLaws.{any-listed}
use Rattle.columns.proofs.unpack.heads_over.Goals as goal

pub returns : goal.returns
returns c =
    let xs = c.args.heads.now in
    any_from_yields_List over_head _ _ _ c.any.ensures.ran (YieldsList-from_slice xs cc) (λ x b q k. search rules)
    ∙ any-listed over_head xs
