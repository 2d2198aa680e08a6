use Rattle.std.proofs.Common.{◌+◌, ◌∙◌, ap, arith}
use Rattle.nz_sweep.proofs.BottomLemmas.{duals_more, pushed_length}
use Rattle.nz_sweep.proofs.bottom.dual_coordinates.Goals as goal

pub loop-place-preserved : goal.loop-place-preserved
loop-place-preserved g c = (
  c.push_reserved.ensures.len ∙ ap (λ n. n + 1) c.loop-place.invariant.0,
  c.push_reserved.ensures.capacity ∙ c.loop-place.invariant.1,
  pushed_length c.loop-place.list.items _ c.loop-place.place _ c.loop-place.invariant.2 c.push_reserved.ensures.items,
  omega (arith, c.loop-place-test.true),
  duals_more c.args.width c.args.columns.now c.args.base.now c.loop-place.list.items _ c.loop-place.place _ c.loop-place.invariant.2 c.loop-place.invariant.4 c.in-Ok-dual_coordinate.ensures c.push_reserved.ensures.items,
)

pub returns : goal.returns
returns g c = record {
  one_each = omega (arith, c.loop-place.invariant.2, c.loop-place.invariant.3, c.loop-place-test.false);
  each = λ i l. c.loop-place.invariant.4 i (omega (arith, l, c.loop-place-test.false));
}
