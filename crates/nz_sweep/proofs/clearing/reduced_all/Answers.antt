use Rattle.std.proofs.Common.{◌+◌, ap, sym, ◌∙◌}
use Rattle.nz_sweep.specs.Clearing.{IsReduced}
use Rattle.nz_sweep.proofs.ClearCauses.{one_of_others}
use Rattle.nz_sweep.proofs.ClearingLemmas.{zip_more, width_at}
use Rattle.nz_sweep.proofs.clearing.reduced_all.Goals as goal

pub loop-place-preserved : goal.loop-place-preserved
loop-place-preserved g c = (
  c.push_reserved.ensures.len ∙ ap (λ n. n + 1) c.loop-place.invariant.0,
  c.push_reserved.ensures.capacity ∙ c.loop-place.invariant.1,
  zip_more (IsReduced c.args.own.now) c.args.others.now c.loop-place.all.items _ c.loop-place.place _ _ c.loop-place-test.true c.index-others-place.is c.loop-place.invariant.2 c.in-Ok-reduced.ensures c.push_reserved.ensures.items,
)

pub reduced-requires-clause-width : goal.reduced-requires-clause-width
reduced-requires-clause-width g c = width_at c.args.width c.args.others.now c.loop-place.place _ c.requires.widths c.loop-place-test.true c.index-others-place.is ∙ sym c.requires.width

pub returns-in-Err-reduced : goal.returns-in-Err-reduced
returns-in-Err-reduced g c = λ e. one_of_others g.T.Scalar.HALF c.args.own.now c.index-others-place.result c.args.others.now (c.loop-place.place, c.loop-place-test.true, sym c.index-others-place.is) (c.in-Err-reduced.ensures e)
