-- `tiling_c::tiling_from_spec` makes the columns in the lent arrays and tells its answer. Assumes nothing.
use Rattle.build.specs.BareLaws.{bare}
use Rattle.tiling_c.proofs.CallLaws.{builds}
use Rattle.tiling_c.proofs.tiling_from_spec.Goals as goal

pub spec_into-r-requires : goal.spec_into-r-requires
spec_into-r-requires c = bare _ _

pub returns : goal.returns
returns c =
    builds c.args.bytes.now _ _ _ _ _ _ _ _ c.tell.result c.spec_into-r.ensures (c.store.ensures _ _ _) c.tell.ensures
