use Rattle.std.proofs.Common.{◌≡◌, ◌+◌, pos, sym, ap, ◌∙◌}
use Rattle.nz_range.specs.Measures.{pair_measure}
use Rattle.nz_sweep.specs.Numbers.{measure_of}
use Rattle.nz_spec.specs.Vectors.{Vector}
use Rattle.nz_sweep.specs.Clearing.{Valued}
use Rattle.nz_sweep.specs.Cuts.{IsValueAt}
use Rattle.nz_sweep.proofs.ClearingLemmas.{zip_more}
use Rattle.nz_sweep.proofs.valued.with_values.Goals as goal

pub loop-place-preserved : goal.loop-place-preserved
loop-place-preserved g c = (
  c.push_reserved.ensures.len ∙ ap (λ n. n + 1) c.loop-place.invariant.0,
  c.push_reserved.ensures.capacity ∙ c.loop-place.invariant.1,
  zip_more (λ (v : Vector) (l : Valued). (l.vector ≡ v) × IsValueAt c.args.form.now v l.value) c.args.base.now c.loop-place.list.items _ c.loop-place.place _ _ c.loop-place-test.true c.index-base-place.is c.loop-place.invariant.2 c.in-Ok-with_value.ensures c.push_reserved.ensures.items,
)

pub returns-in-Err-with_value : goal.returns-in-Err-with_value
returns-in-Err-with_value g c =
    let v = c.index-base-place.result in
    λ e. record { number = pos (pair_measure c.args.form.now v); is_number = measure_of {v = v} (c.loop-place.place, c.loop-place-test.true, sym c.index-base-place.is); large = c.in-Err-with_value.ensures e }
