use Rattle.std.proofs.Common.{◌<ℤ◌, ℤ, pos, sym, subst}
use Rattle.std.proofs.lemmas.Bool.{false≢true}
use Rattle.nz_spec.specs.Vectors.{dot, IsMultipleOf}
use Rattle.nz_sweep.specs.Duals.{Coordinate}
use Rattle.nz_range.specs.Measures.{pair_measure}
use Rattle.nz_range.proofs.Causes.{value_cause}
use Rattle.nz_sweep.proofs.InsideLemmas.{no_fraction, no_product, value_fits}
use Rattle.nz_sweep.proofs.inside.whole_coordinate.Goals as goal

pub returns-in-None : goal.returns-in-None
returns-in-None g c = λ _. subst (λ (t : Coordinate). g.T.Scalar.HALF <ℤ pos (pair_measure t.form c.args.x.now)) c.coordinate.view_is (value_cause _ _ g.met.T.Scalar.room c.coordinate.inside.form c.args.x.now c.in-None.ensures)

pub floor-quotient-requires : goal.floor-quotient-requires
floor-quotient-requires g c =
    let p : pos 0 <ℤ g.T.Scalar.integer c.coordinate.inside.divisor = subst (λ (t : Coordinate). pos 0 <ℤ t.divisor) (sym c.coordinate.view_is) c.requires.positive in
    p

pub returns-in-None-try_mul : goal.returns-in-None-try_mul
returns-in-None-try_mul g c =
    let Z = g.T.Scalar.integer in
    let p : pos 0 <ℤ Z c.coordinate.inside.divisor = subst (λ (t : Coordinate). pos 0 <ℤ t.divisor) (sym c.coordinate.view_is) c.requires.positive in
    subst (λ (t : Coordinate). ¬ IsMultipleOf t.divisor (dot t.form c.args.x.now)) c.coordinate.view_is (subst (λ (t : ℤ). ¬ IsMultipleOf (Z c.coordinate.inside.divisor) t) c.in-Some.ensures.1
    (no_product g.T.Scalar.fits (Z c.in-Some.value) (Z c.coordinate.inside.divisor) (Z c.floor-quotient.result) p c.floor-quotient.ensures c.in-None-try_mul.ensures (value_fits g.T.Scalar.fits (Z c.in-Some.value) c.coordinate.inside.form c.args.x.now g.met.T.Scalar.room.zero_fits c.in-Some.ensures.0 c.in-Some.ensures.1)))

pub returns : goal.returns
returns g c =
    let Z = g.T.Scalar.integer in
    let p : pos 0 <ℤ Z c.coordinate.inside.divisor = subst (λ (t : Coordinate). pos 0 <ℤ t.divisor) (sym c.coordinate.view_is) c.requires.positive in
    subst (λ (t : Coordinate). ¬ IsMultipleOf t.divisor (dot t.form c.args.x.now)) c.coordinate.view_is (subst (λ (t : ℤ). ¬ IsMultipleOf (Z c.coordinate.inside.divisor) t) c.in-Some.ensures.1
    (no_fraction (Z c.in-Some.value) (Z c.coordinate.inside.divisor) (Z c.floor-quotient.result) (Z c.in-Some-try_mul.product) p c.floor-quotient.ensures c.in-Some-try_mul.ensures.1 (λ e. false≢true (c.if-is_same.ensures.1 e))))
