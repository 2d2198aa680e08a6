use Rattle.std.proofs.Common.{◌∙◌, refl, arith}
use Rattle.nz_sweep.proofs.PivotLemmas.{value_at, zero_more, all_zero}
use Rattle.nz_sweep.specs.Clearing.{values_of}
use Rattle.nz_sweep.proofs.pivots.are_zero.Goals as goal

pub loop-place-preserved : goal.loop-place-preserved
loop-place-preserved g c = zero_more (values_of c.args.list.now) c.loop-place.place c.loop-place.invariant (value_at c.args.list.now c.loop-place.place c.index-list-place.result c.loop-place-test.true c.index-list-place.is ∙ c.if-not-is_zero.ensures.0 refl)

pub returns : goal.returns
returns g c = all_zero c.args.list.now (λ k l. c.loop-place.invariant k (omega (arith, l, c.loop-place-test.false)))
