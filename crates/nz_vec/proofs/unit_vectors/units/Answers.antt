use Rattle.std.proofs.Common.{◌+◌, ap, ◌∙◌, arith, ◌∷◌, [], ◌++◌, List, ℤ}
use Rattle.nz_vec.proofs.UnitLemmas.{unit_more, units_all}
use Rattle.nz_vec.proofs.unit_vectors.units.Goals as goal

pub loop-place-preserved : goal.loop-place-preserved
loop-place-preserved g c = (
  c.push_reserved.ensures.len ∙ ap (λ n. n + 1) c.loop-place.invariant.0,
  c.push_reserved.ensures.capacity ∙ c.loop-place.invariant.1,
  c.push_reserved.ensures.items ∙ ap (λ (u : List ℤ). c.loop-place.units.items ++ (u ∷ [])) c.in-Ok-unit.ensures ∙ unit_more c.args.width c.loop-place.place c.loop-place.units.items c.loop-place-test.true c.loop-place.invariant.2,
)

pub returns : goal.returns
returns g c = c.loop-place.invariant.2 ∙ units_all c.args.width c.loop-place.place (omega (arith, c.loop-place-test.false))
