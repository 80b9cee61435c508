-- `wire::has_bits` meets its contract: a number that equals itself is no NaN. Assumes nothing.
use mathlib.Core.Bool.{cond}
use mathlib.Core.Path.{sym}
use lib.Dec.{eqb}
use lib.Ieee.{binary64, to_bits}
use Rattle.compare.proofs.Bits.{no_nan}
use Rattle.wire.proofs.has_bits.Goals as goal

pub float_to_bits-result : goal.float_to_bits-result
float_to_bits-result c = no_nan c.args.x c.if-x.true

pub returns-then-x : goal.returns-then-x
returns-then-x c = λ z. cond (sym c.if-x.true z) (eqb (to_bits binary64 c.args.x) c.args.bits) (eqb c.args.bits 0x7ff8_0000_0000_0000)

pub returns : goal.returns
returns c = λ z. cond (sym c.if-x.false z) (eqb (to_bits binary64 c.args.x) c.args.bits) (eqb c.args.bits 0x7ff8_0000_0000_0000)
