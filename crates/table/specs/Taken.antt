-- How many entries some rows take off the other sections. Definitions only.
use Rattle.std.specs.Prelude.{◌+◌}
use Rattle.rules.specs.Table.{Row, panes_used, shares_used, minima_used}
use Rattle.table.specs.declared.row.Taken.{Taken}

-- nothing before the first row
abbrev pub taken_none : Taken
taken_none = record { panes = 0; shares = 0; minima = 0 }

-- past one more row
abbrev pub taken_with : Taken → Row → Taken
taken_with k r = record { panes = k.panes + panes_used r; shares = k.shares + shares_used r; minima = k.minima + minima_used r }
