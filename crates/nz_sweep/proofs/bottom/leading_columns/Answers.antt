use Rattle.std.proofs.Common.{◌+◌, ◌∙◌, ap}
use Rattle.nz_sweep.proofs.BottomLemmas.{columns_more, columns_all}
use Rattle.nz_sweep.proofs.bottom.leading_columns.Goals as goal

pub loop-place-preserved : goal.loop-place-preserved
loop-place-preserved g c = (
  c.push_reserved.ensures.len ∙ ap (λ n. n + 1) c.loop-place.invariant.0,
  c.push_reserved.ensures.capacity ∙ c.loop-place.invariant.1,
  λ columns z. columns_more columns c.args.base.now c.loop-place.columns.items _ c.loop-place.place _ c.leading_column.result c.loop-place-test.true c.index-base-place.is z (c.loop-place.invariant.2 columns z) c.leading_column.ensures c.push_reserved.ensures.items,
)

pub returns : goal.returns
returns g c = λ columns z. c.loop-place.invariant.2 columns z ∙ columns_all columns c.args.base.now c.loop-place.place c.loop-place-test.false z
