use Rattle.std.proofs.Common.{arith}
use Rattle.nz_sweep.proofs.PivotLemmas.{least_done}
use Rattle.nz_sweep.proofs.pivots.least.Goals as goal

pub returns : goal.returns
returns g c = least_done c.args.list.now c.loop-place.place c.loop-place.least (omega (arith, c.loop-place.auto, c.loop-place-test.false)) c.loop-place.invariant
