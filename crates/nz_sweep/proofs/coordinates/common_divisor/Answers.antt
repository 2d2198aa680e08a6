use Rattle.std.proofs.Common.{◌∷◌, [], ℤ, List, subst, arith}
use Rattle.std.proofs.lemmas.List.{take_all}
use Rattle.nz_scalar.specs.Division.{HasGcd}
use Rattle.nz_sweep.proofs.LowerLemmas.{gcd_start, gcd_more, gcd_first_large}
use Rattle.nz_sweep.proofs.coordinates.common_divisor.Goals as goal

pub loop-place-init : goal.loop-place-init
loop-place-init g c = (c.requires, gcd_start (g.T.Scalar.integer c.args.divisor) c.requires)

pub loop-place-preserved : goal.loop-place-preserved
loop-place-preserved g c =
    let Z = g.T.Scalar.integer in
    gcd_more (Z c.args.divisor) (Z c.loop-place.common) (Z c.in-Some.common) c.args.form.now c.loop-place.place (omega (arith, c.loop-place-test.true, c.len-place-end.ensures)) c.loop-place.invariant.0 c.loop-place.invariant.1 (subst (λ (t : ℤ). HasGcd (Z c.loop-place.common ∷ t ∷ []) (Z c.in-Some.common)) c.at.ensures c.in-Some.ensures.value.1)

pub returns-in-None : goal.returns-in-None
returns-in-None g c =
    let Z = g.T.Scalar.integer in
    gcd_first_large _ _ g.met.T.Scalar.room (Z c.args.divisor) (Z c.loop-place.common) (Z c.at.result) _ c.requires c.loop-place.invariant.0 c.loop-place.invariant.1 c.in-None.ensures.value

pub returns : goal.returns
returns g c =
    let Z = g.T.Scalar.integer in
    (c.loop-place.invariant.0, subst (λ (t : List ℤ). HasGcd (Z c.args.divisor ∷ t) (Z c.loop-place.common)) (take_all c.loop-place.place c.args.form.now (omega (arith, c.loop-place-test.false, c.len-place-end.ensures))) c.loop-place.invariant.1)
