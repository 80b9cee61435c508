-- What validation answers, and where it stands in the sections. Definitions only.
use Rattle.std.specs.Prelude.{◌≡◌, Result, Ok, Err, List, ℕ, ◌+◌, ◌≤◌, length, take, drop}
use Rattle.std.proofs.Math.Option as O
use Rattle.rules.specs.Table.{Row, panes_used, shares_used, minima_used, Table}
use Rattle.rules.specs.Spec.{Left}
use Rattle.rules.specs.declared.refusal.Refusal.{Refusal}
use Rattle.table.specs.Rows.{panes_at}
use Rattle.table.specs.declared.row.Taken.{Taken}
use Rattle.table.specs.declared.sections.Places.{Places}

abbrev pub checked_as : Result Unit Refusal → O.Option Refusal
checked_as (Ok _) = O.none
checked_as (Err e) = O.some e

-- what is left of a table's sections past the panes, shares and minima that are taken
abbrev pub left_at : Table → Taken → Left
left_at t k = record { panes = drop k.panes t.panes; shares = drop k.shares t.shares; minima = drop k.minima t.minima }

-- what a row takes is there
pub record Room (t : Places) (r : Row) (k : Taken) : Type 0 where
  pub panes : k.panes + panes_used r ≤ t.panes.count
  pub shares : k.shares + shares_used r ≤ t.shares.count
  pub minima : k.minima + minima_used r ≤ t.minima.count

-- the panes section in an array of 1,024
pub record Loaded (bs : List ℕ) (t : Places) (panes : List ℕ) : Type 0 where
  pub size : length panes ≡ 1024
  pub few : t.panes.count ≤ 1024
  pub is : take t.panes.count panes ≡ panes_at bs t
