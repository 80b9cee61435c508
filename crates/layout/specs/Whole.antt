-- What a layout over lent arrays promises. Definitions only.
use Rattle.std.specs.Prelude.{◌≡◌, ℕ, ◌≤◌, List, ◌++◌, map, length, drop, Float}
use Rattle.rules.specs.Tree.{Arena}
use Rattle.rules.specs.Frame.{Laid, frame_of, layout_items, plus_input, layout}
use Rattle.rules.specs.declared.frame.LayoutInput.{LayoutInput}
use Rattle.rules.specs.Refusals.{Accepted, Refused}
use Rattle.rules.specs.declared.refusal.Refusal.{Refusal}
use Rattle.streaming.specs.Stream.{code_of, sides_of, stream, items_in}
use Rattle.layout.specs.declared.LaidOut.{LaidOut}

-- the answer and what stands in the arrays, as the rule has it
abbrev pub laid_out : List (List ℕ) → List (List Float) → LaidOut → Laid
laid_out cs qs r = record { answer = r.answer; revision = r.revision; frame = frame_of (items_in (stream cs qs r.len)) }

-- of an arena, from the arrays cs and qs to the arrays cs' and qs', of which `len` entries are in use
pub record LaysOut (a : Arena) (i : LayoutInput) (cs : List (List ℕ)) (qs : List (List Float)) (cs' : List (List ℕ)) (qs' : List (List Float)) (r : LaidOut) : Type 0 where
  pub right : laid_out cs' qs' r ≡ layout a i
  -- the entries in use are the rule's items, in its order
  pub items : r.answer ≡ Accepted → items_in (stream cs' qs' r.len) ≡ layout_items a (plus_input i)
  -- all that the arrays hold: the entries in use, number for number, and past them what was there
  pub codes : cs' ≡ map code_of (items_in (stream cs' qs' r.len)) ++ drop r.len cs
  pub sides : qs' ≡ map sides_of (items_in (stream cs' qs' r.len)) ++ drop r.len qs
  pub size : r.len ≡ length (items_in (stream cs' qs' r.len))
  pub few : r.len ≤ 2304
  pub long : (length cs' ≡ length cs) × (length qs' ≡ length qs)
  -- a refusal writes nothing
  pub untouched : (e : Refusal) → r.answer ≡ Refused e → (r.len ≡ 0) × (cs' ≡ cs) × (qs' ≡ qs)
