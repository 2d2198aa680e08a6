use Rattle.std.proofs.Common.{◌+◌, ◌∙◌, pos, sym, ap, subst}
use Rattle.std.specs.Prelude.{MatchOption}
use Rattle.nz_spec.specs.Vectors.{dot, IsMultipleOf}
use Rattle.nz_sweep.specs.Duals.{IsWholeAt}
use Rattle.nz_range.specs.Measures.{pair_measure}
use Rattle.nz_sweep.specs.Numbers.{measure_at}
use Rattle.nz_sweep.proofs.InsideLemmas.{whole_more}
use Rattle.nz_sweep.proofs.inside.whole_coordinates.Goals as goal

pub loop-place-preserved : goal.loop-place-preserved
loop-place-preserved g c =
    let Z = g.T.Scalar.integer in
    let r = c.index-coordinates-place.result in (
      c.push_reserved.ensures.len ∙ ap (λ n. n + 1) c.loop-place.invariant.0,
      c.push_reserved.ensures.capacity ∙ c.loop-place.invariant.1,
      whole_more Z c.args.x.now c.args.coordinates.now c.loop-place.entries.items c.push_reserved.new.self.items c.loop-place.place r c.in-Some.entry c.loop-place-test.true c.index-coordinates-place.is c.loop-place.invariant.2 (subst (λ o. MatchOption o (¬ IsMultipleOf c.index-coordinates-place.result.divisor (dot c.index-coordinates-place.result.form c.args.x.now)) (λ q. IsWholeAt c.args.x.now c.index-coordinates-place.result (g.T.Scalar.integer q))) c.in-Some.is c.in-Ok-whole_coordinate.ensures) c.push_reserved.ensures.items,
    )

pub returns-in-Err-whole_coordinate : goal.returns-in-Err-whole_coordinate
returns-in-Err-whole_coordinate g c =
    let r = c.index-coordinates-place.result in
    λ e. record { number = pos (pair_measure r.form c.args.x.now); is_number = measure_at {c = r} (c.loop-place.place, c.loop-place-test.true, sym c.index-coordinates-place.is); large = c.in-Err-whole_coordinate.ensures e }
