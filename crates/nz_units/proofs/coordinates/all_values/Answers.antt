use Rattle.std.proofs.Common.{arith}
use Rattle.nz_spec.specs.Vectors.{values_at}
use Rattle.nz_sweep.proofs.BaseLemmas.{mapped_more}
use Rattle.nz_units.proofs.coordinates.all_values.Goals as goal

pub loop-place-preserved : goal.loop-place-preserved
loop-place-preserved g c =
    mapped_more (λ x. values_at c.args.forms.now x) c.args.vectors.now c.loop-place.place c.loop-place.list c.push.new.self c.in-Ok.values c.at.result.now
    (omega (arith, c.loop-place-test.true, c.len-place-end.ensures)) c.at.ensures c.in-Ok.ensures c.loop-place.invariant c.in-Ok-push.ensures.ok
