use Rattle.std.proofs.Common.{arith}
use Rattle.nz_primal.specs.Parts.{keyed}
use Rattle.nz_sweep.proofs.BaseLemmas.{mapped_more}
use Rattle.nz_primal.proofs.keys.all_keyed.Goals as goal

pub loop-place-preserved : goal.loop-place-preserved
loop-place-preserved g c =
    mapped_more (keyed c.args.order.now) c.args.vectors.now c.loop-place.place c.loop-place.keys c.push.new.self c.in-Ok.key c.at.result.now
    (omega (arith, c.loop-place-test.true, c.len-place-end.ensures)) c.at.ensures c.in-Ok.ensures.key c.loop-place.invariant c.in-Ok-push.ensures.ok
