use Rattle.std.proofs.Common.{arith}
use Rattle.nz_cert.proofs.ReductionLemmas.{none_is_below}
use Rattle.nz_cert.proofs.reduction.first_below.Goals as goal

pub returns : goal.returns
returns g c = none_is_below c.args.table.now c.args.values.now c.loop-place.place (omega (arith, c.loop-place-test.false, c.len-place-end.ensures)) c.loop-place.invariant
