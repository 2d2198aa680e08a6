use Rattle.std.proofs.Common.{arith}
use Rattle.nz_cert.proofs.OrderingLemmas.{apart_end, apart_more}
use Rattle.nz_cert.proofs.ordering.is_apart.Goals as goal

pub returns-then-has_other_below : goal.returns-then-has_other_below
returns-then-has_other_below g c = λ a. a c.loop-place.place (omega (arith, c.loop-place-test.true, c.len-place-end.ensures)) c.if-has_other_below.ensures

pub loop-place-preserved : goal.loop-place-preserved
loop-place-preserved g c = apart_more c.args.table.now c.loop-place.place c.loop-place.invariant c.if-has_other_below.ensures

pub returns : goal.returns
returns g c = apart_end c.args.table.now c.loop-place.place (omega (arith, c.loop-place-test.false, c.len-place-end.ensures)) c.loop-place.invariant
