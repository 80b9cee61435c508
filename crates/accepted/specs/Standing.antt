-- A table that was read fits its rows; and what is built from one that passed validation is a loose forest, which shows the panes section.
-- Assumes nothing.
use Rattle.std.specs.Prelude.{◌≡◌, refl, Bool, true, false, ◌&&◌, ℕ, ◌-◌, ◌≤◌, eqb, length, replicate}
use Rattle.std.proofs.Math.Path.{sym, ap}
use Rattle.std.proofs.Common.{subst, ◌∙◌, arith, eqb-true, length-append}
use mathlib.Core.List.{List, [], ◌∷◌, ◌++◌, map, append-nil}
use Rattle.std.proofs.Math.Option.{Option, none, some}
use Rattle.std.proofs.lemmas.List.{length-replicate}
use Rattle.std.proofs.Math.ListN.{get_or-append}
use Rattle.rules.specs.Tree.{empty, tile}
use Rattle.rules.specs.Table.{Row, panes_used, shares_used, minima_used, sum_rows, preorder, Table, rows_fit, Section, section, fitting, with_rows, rows_of, at_end, with_minima, with_shares, with_panes, after_rows, read_table, number, real}
use Rattle.rules.specs.Spec.{left_of, validate, Build, build, push_spec, built_nodes}
use Rattle.forest.specs.Lists.{Distinct, never}
use Rattle.forest.specs.Loose.{Loose, end, shown, Held}
use Rattle.forest.specs.Bools.{and_both}
use Rattle.accepted.specs.Sprout.{up_from, up-distinct, Grew, builds}
use Rattle.accepted.specs.Once.{none_left, panes-fresh}

-- ---- a table that was read fits its rows

no_table : {A : Type 0} (t : Table) → none ≡ some t → A
no_table t e = absurd (let z : ◌≡◌ {A = ℕ} 0 1 = cc in omega arith)

fitting-fits : (u t : Table) (b : Bool) → rows_fit u ≡ b → fitting b u ≡ some t → rows_fit t ≡ true
fitting-fits u t true q e = let z : u ≡ t = cc in subst (λ (x : Table). rows_fit x ≡ true) z q
fitting-fits u t false q e = no_table t e

module _ (t : Table) where
  rows_fit_lem : (o : Option (List Row)) (ps ss ms : List (List ℕ)) → with_rows o ps ss ms ≡ some t → rows_fit t ≡ true
  rows_fit_lem none ps ss ms e = no_table t e
  rows_fit_lem (some rs) ps ss ms e =
      let u : Table = record { rows = rs; panes = map number ps; shares = map real ss; minima = map real ms } in
      fitting-fits u t (rows_fit u) refl e

  end_fits : (rs ps ss ms : List (List ℕ)) (bs : List ℕ) → at_end rs ps ss ms bs ≡ some t → rows_fit t ≡ true
  end_fits rs ps ss ms [] e = rows_fit_lem (rows_of rs) ps ss ms e
  end_fits rs ps ss ms (b ∷ bs) e = no_table t e

  minima-fit : (rs ps ss : List (List ℕ)) (o : Option Section) → with_minima rs ps ss o ≡ some t → rows_fit t ≡ true
  minima-fit rs ps ss none e = no_table t e
  minima-fit rs ps ss (some s) e = end_fits rs ps ss s.entries s.rest e

  shares-fit : (rs ps : List (List ℕ)) (o : Option Section) → with_shares rs ps o ≡ some t → rows_fit t ≡ true
  shares-fit rs ps none e = no_table t e
  shares-fit rs ps (some s) e = minima-fit rs ps s.entries (section 8 s.rest) e

  panes-fit : (rs : List (List ℕ)) (o : Option Section) → with_panes rs o ≡ some t → rows_fit t ≡ true
  panes-fit rs none e = no_table t e
  panes-fit rs (some s) e = shares-fit rs s.entries (section 8 s.rest) e

  after-fit : (o : Option Section) → after_rows o ≡ some t → rows_fit t ≡ true
  after-fit none e = no_table t e
  after-fit (some s) e = panes-fit s.entries (section 8 s.rest) e

  pub read_fits : (bs : List ℕ) → read_table bs ≡ some t → rows_fit t ≡ true
  unfolding read_table
  read_fits bs e = after-fit (section 8 bs) e

-- ---- what is built from a table that passed validation is a loose forest that shows the panes section

empty-rows : (rs : List Row) → preorder 0 rs ≡ true → rs ≡ []
unfolding preorder
empty-rows [] e = refl
empty-rows (r ∷ rs) e = never (sym e)

module _ (t : Table) (fit : rows_fit t ≡ true) (few : length t.rows ≤ 64) (checked : validate t.rows (left_of t) [] ≡ none) where
  abbrev start : Build
  start = build t.rows (left_of t) []

  abbrev built : Build
  built = push_spec (length t.rows) start

  ordered : (preorder 1 t.rows ≡ true) × (sum_rows panes_used t.rows ≡ length t.panes)
  ordered =
      let first = preorder 1 t.rows in
      let panes = eqb (sum_rows panes_used t.rows) (length t.panes) in
      let shares = eqb (sum_rows shares_used t.rows) (length t.shares) in
      let (most, _) = and_both (first && panes && shares) (eqb (sum_rows minima_used t.rows) (length t.minima)) fit in
      let (both, _) = and_both (first && panes) shares most in
      let (a, b) = and_both first panes both in
      (a, eqb-true (sum_rows panes_used t.rows) (length t.panes) b)

  grown : (T : Loose → Loose) × (G : Grew start built 0 T) × (G.ids ≡ tile 0 ∷ [])
  grown = builds (length t.rows) start 0 (record { enough = ordered.1; due = ordered.0 }) (omega arith)

  abbrev T : Loose → Loose
  T = grown.0

  abbrev G : Grew start built 0 T
  G = grown.1

  rows-done : built.rows ≡ []
  rows-done = empty-rows built.rows G.due

  seen_all : G.seen ≡ t.panes
  unfolding sum_rows
  seen_all =
      let none_more : built.left.panes ≡ [] = none_left built.left.panes (sym (ap (sum_rows panes_used) rows-done) ∙ G.enough) in
      sym (append-nil G.seen) ∙ ap (λ (ps : List ℕ). G.seen ++ ps) (sym none_more) ∙ G.panes

  shows-panes : shown (T end) ≡ t.panes
  shows-panes = G.shown-are end ∙ append-nil G.seen ∙ seen_all

  fits : length built.nodes ≤ 64
  fits = let a = G.size in let b = G.rows_left in omega (arith, few, a, b)

  filled : length (built_nodes t) ≡ 64
  filled =
      let a = length-append built.nodes (replicate (64 - length built.nodes) empty) in
      let b = length-replicate (64 - length built.nodes) empty in
      let f = fits in omega (arith, a, b, f)

  pub held : (f : Loose) × Held (built_nodes t) (tile 0) f × (shown f ≡ t.panes)
  held = (
    T end,
    record {
      size = filled;
      root_is = G.heads-are end ∙ append-nil G.ids ∙ grown.2;
      holds = G.holds (built_nodes t) (λ j lo hi. get_or-append built.nodes (replicate (64 - length built.nodes) empty) empty j hi) fits end (λ before. tt) [];
      apart = subst Distinct (sym (G.tiles-are end ∙ append-nil (up_from 0 G.count))) (up-distinct 0 G.count);
      panes = subst Distinct (sym shows-panes) (panes-fresh t.rows (left_of t) [] tt ordered.1 checked);
    },
    shows-panes,
  )
