use Rattle.std.proofs.Common.{drop, arith}
use Rattle.nz_sweep.proofs.BaseLemmas.{mapped_more}
use Rattle.nz_primal.proofs.keys.all_ends.Goals as goal

pub loop-place-preserved : goal.loop-place-preserved
loop-place-preserved g c =
    mapped_more (drop c.args.count) c.args.keys.now c.loop-place.place c.loop-place.rows c.push.new.self c.in-Ok.row c.at.result.now
    (omega (arith, c.loop-place-test.true, c.len-place-end.ensures)) c.at.ensures c.in-Ok.ensures c.loop-place.invariant c.in-Ok-push.ensures.ok
