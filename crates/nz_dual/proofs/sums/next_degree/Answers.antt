use Rattle.nz_dual.proofs.SumLemmas.{next_seen}
use Rattle.nz_dual.proofs.sums.next_degree.Goals as goal

pub loop-place-preserved : goal.loop-place-preserved
loop-place-preserved c = next_seen c.args.last c.loop-place.best c.soonest_with-best.result c.args.firsts.now c.args.seconds.now c.loop-place.place c.loop-place-test.true c.loop-place.invariant c.soonest_with-best.ensures.ahead c.soonest_with-best.ensures.seen c.soonest_with-best.ensures.earlier
