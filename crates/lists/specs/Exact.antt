-- What a list of 16 with a length holds: exact entries, and zeros past them. Definitions only.
use Rattle.std.specs.Prelude.{◌≡◌, List, [], ◌∷◌, ◌++◌, ℕ, zero, suc, ◌+◌, ◌≤◌, length, take, set, Float}
use Rattle.rules.specs.Numbers.{zero-f}
use Rattle.rules.specs.Tree.{tile}
use Rattle.rules.specs.declared.model.TileId.{TileId}
use Rattle.rules.specs.Tree.{Ids}
use Rattle.rules.specs.Tree.{Tiles}
use Rattle.rules.specs.Tree.{Reals}

-- n entries: those of xs, then d at each place that is left
unfoldable pub pad_to : {A : Type 0} → ℕ → A → List A → List A
pad_to zero d xs = []
pad_to (suc n) d [] = d ∷ pad_to n d []
pad_to (suc n) d (x ∷ xs) = x ∷ pad_to n d xs

-- the 16 entries `at`, of which `len` are in use, hold exactly xs, and d past them
pub record Exactly {A : Type 0} (d : A) (at : List A) (len : ℕ) (xs : List A) : Type 0 where
  pub list : take len at ≡ xs
  pub size : len ≡ length xs
  pub few : len ≤ 16
  pub padded : at ≡ pad_to 16 d xs

abbrev pub IsIds : Ids → List ℕ → Type 0
IsIds l xs = Exactly 0 l.at l.len xs

abbrev pub IsTiles : Tiles → List TileId → Type 0
IsTiles l xs = Exactly (tile 0) l.at l.len xs

abbrev pub IsReals : Reals → List Float → Type 0
IsReals l xs = Exactly zero-f l.at l.len xs

-- one entry more, in place: what stands past the new end is as it was
pub record Pushed {A : Type 0} (x : A) (at : List A) (len : ℕ) (at' : List A) (len' : ℕ) : Type 0 where
  pub list : take len' at' ≡ take len at ++ x ∷ []
  pub size : len' ≡ len + 1
  pub entries : at' ≡ set at len x

-- the entry at a place anew, in place
pub record Replaced {A : Type 0} (i : ℕ) (x : A) (at : List A) (len : ℕ) (at' : List A) (len' : ℕ) : Type 0 where
  pub list : take len' at' ≡ set (take len at) i x
  pub size : len' ≡ len
  pub entries : at' ≡ set at i x
