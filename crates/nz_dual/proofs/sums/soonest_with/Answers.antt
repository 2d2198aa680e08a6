use Rattle.nz_dual.proofs.SumLemmas.{soonest_seen}
use Rattle.nz_dual.proofs.sums.soonest_with.Goals as goal

pub loop-place-preserved : goal.loop-place-preserved
loop-place-preserved c = record {
  ahead = λ h. c.sooner-best.ensures.ahead (c.loop-place.invariant.ahead h);
  seen = soonest_seen c.args.last c.loop-place.best c.sooner-best.result c.args.degree c.args.others.now c.loop-place.place c.loop-place-test.true c.loop-place.invariant.seen c.sooner-best.ensures.seen c.sooner-best.ensures.earlier;
  earlier = λ d h. c.sooner-best.ensures.earlier d (c.loop-place.invariant.earlier d h);
}
