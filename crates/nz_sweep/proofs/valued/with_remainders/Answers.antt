use Rattle.std.proofs.Common.{◌≡◌, ◌+◌, sym, ap, ◌∙◌}
use Rattle.nz_sweep.proofs.CutCauses.{remainder_number}
use Rattle.nz_spec.specs.Vectors.{Vector}
use Rattle.nz_sweep.specs.Clearing.{Valued}
use Rattle.nz_sweep.specs.Cuts.{IsRemainderAt}
use Rattle.nz_sweep.proofs.ClearingLemmas.{zip_more}
use Rattle.nz_sweep.proofs.valued.with_remainders.Goals as goal

pub loop-place-preserved : goal.loop-place-preserved
loop-place-preserved g c = (
  c.push_reserved.ensures.len ∙ ap (λ n. n + 1) c.loop-place.invariant.0,
  c.push_reserved.ensures.capacity ∙ c.loop-place.invariant.1,
  zip_more (λ (v : Vector) (l : Valued). (l.vector ≡ v) × IsRemainderAt c.args.form.now (g.T.Scalar.integer c.args.modulus) v l.value) c.args.base.now c.loop-place.list.items _ c.loop-place.place _ _ c.loop-place-test.true c.index-base-place.is c.loop-place.invariant.2 c.in-Ok-with_remainder.ensures c.push_reserved.ensures.items,
)

pub returns-in-Err-with_remainder : goal.returns-in-Err-with_remainder
returns-in-Err-with_remainder g c = λ e. remainder_number g.T.Scalar.HALF (g.T.Scalar.integer c.args.modulus) c.args.form.now c.args.base.now c.index-base-place.result (c.loop-place.place, c.loop-place-test.true, sym c.index-base-place.is) (c.in-Err-with_remainder.ensures e)
