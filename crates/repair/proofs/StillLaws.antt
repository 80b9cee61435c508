-- Laws of soundness: the walk that only reads tells whether a repair would list anything, and that tells soundness. Assumes nothing.
use mathlib.Core.Path.{◌≡◌, sym, ap, ◌∙◌}
use mathlib.Core.Bool.{Bool, true, false, ◌||◌}
use mathlib.Core.List.{List, []}
use Prim.Native.Nat.{ℕ}
use lib.Ieee.{Float}
use Rattle.rules.specs.Lists.{any_of}
use Rattle.rules.specs.Tree.{Arena}
use Rattle.rules.specs.Repair.{repair}
use Rattle.rules.specs.Sound.{lone_empty_root, sound}
use Rattle.forest.specs.SoundIs.{sound-is}
use Rattle.forest.specs.Still.{is_still}
use Rattle.forest.specs.Finish.{repair-over}
use Rattle.columns.specs.Pack.{over_head}
use Rattle.columns.specs.Shown.{arena_from, Plain}
use Rattle.calm.specs.Calm.{calm_arena}
use Rattle.calm.specs.Whole.{calm-still}
use Rattle.settling.proofs.StartLaws.{narrow-in, start, start-sized}
use Rattle.settling.proofs.PlainLaws.{slim-heads, plain_over, plain-long}

module _ (root v : ℕ) (hs xs : List (List ℕ)) (ss ms : List (List Float)) (P : Plain hs xs ss ms) where
  abbrev a : Arena
  a = arena_from root v hs xs ss ms

  pub over-still : any_of over_head hs ≡ true → false ≡ is_still (repair a)
  over-still e = sym (ap is_still (repair-over a (sym (plain_over hs xs ss ms P) ∙ e)))

  -- the walk that only reads tells it
  pub calm-tells : any_of over_head hs ≡ false → (r : Bool) → r ≡ calm_arena a → r ≡ is_still (repair a)
  calm-tells few r e =
      let slim = start-sized hs xs ss ms [] [] P.heads P.ids P.shares P.minima (slim-heads hs few) in
      e ∙ sym (calm-still a (plain-long hs xs ss ms P) (sym (plain_over hs xs ss ms P) ∙ few) (narrow-in (start hs xs ss ms [] []) slim))

  pub still-sound : (b : Bool) → b ≡ is_still (repair a) → (b || lone_empty_root a) ≡ sound a
  still-sound b e = ap (λ (x : Bool). x || lone_empty_root a) e ∙ sym (sound-is a (plain-long hs xs ss ms P))
