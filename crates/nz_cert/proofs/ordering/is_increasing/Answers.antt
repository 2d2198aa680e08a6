use Rattle.std.proofs.Common.{arith}
use Rattle.nz_cert.proofs.OrderingLemmas.{increasing, not_at}
use Rattle.nz_cert.proofs.ordering.is_increasing.Goals as goal

pub returns-then-not-is_before : goal.returns-then-not-is_before
returns-then-not-is_before g c = not_at c.args.list.now _ _ c.loop-place.place c.loop-place.invariant.some (omega (arith, c.loop-place-test.true, c.len.ensures)) c.at.ensures c.at-in-loop-place.ensures c.if-not-is_before.ensures

pub returns : goal.returns
returns g c = increasing c.args.list.now c.loop-place.place (omega (arith, c.loop-place-test.false, c.len.ensures)) c.loop-place.invariant.before
