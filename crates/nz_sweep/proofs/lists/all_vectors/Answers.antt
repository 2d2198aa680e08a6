use Rattle.std.proofs.Common.{[], get_or, subst, arith}
use Rattle.nz_spec.specs.Vectors.{combination}
use Rattle.nz_sweep.specs.Bases.{CombinationSumsFit}
use Rattle.nz_spec.proofs.ListLaws.{contains_at}
use Rattle.nz_sweep.proofs.BaseLemmas.{mapped_more}
use Rattle.nz_sweep.proofs.lists.all_vectors.Goals as goal

pub loop-place-preserved : goal.loop-place-preserved
loop-place-preserved g c =
    mapped_more (λ d. combination c.args.base.now.width d c.args.base.now.vectors) c.args.coordinates.now c.loop-place.place c.loop-place.list c.push.new.self c.in-Ok.vector c.at.result.now
    (omega (arith, c.loop-place-test.true, c.len-place-end.ensures)) c.at.ensures c.in-Ok.ensures c.loop-place.invariant c.in-Ok-push.ensures.ok

pub returns-in-Err : goal.returns-in-Err
returns-in-Err g c = λ e. record {
  coordinates = get_or c.args.coordinates.now c.loop-place.place [];
  has = contains_at c.args.coordinates.now c.loop-place.place [] (omega (arith, c.loop-place-test.true, c.len-place-end.ensures));
  outside = subst (λ d. ¬ CombinationSumsFit g.T.Scalar.fits c.args.base.now.width d c.args.base.now.vectors) c.at.ensures (c.in-Err.ensures e);
}
