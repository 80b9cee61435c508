-- A list of two pushes twice. Assumes nothing.
use mathlib.Core.List.{[], ◌∷◌}
use Rattle.lists.specs.Build.{exactly-push}
use native.Mathlib.Omega.{arith}
use Rattle.lists.proofs.two.Goals as goal

pub returns : goal.returns
returns g c =
    let e = c.empty-none.ensures in
    let p = c.push-one.ensures in
    let o = exactly-push _ _ _ _ _ _ [] e (omega (arith, e.size)) p in
    exactly-push _ _ _ _ _ _ (c.args.a ∷ []) o (omega (arith, o.size)) c.push.ensures
