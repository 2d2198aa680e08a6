use Rattle.std.proofs.Common.{◌≡◌}
use Rattle.nz_spec.specs.Vectors.{Vector, plus, scaled}
use Rattle.nz_vec.specs.declared.answers.Num.{Num}
use Rattle.nz_vec.specs.declared.answers.Num.TheVariants.{Range}
use Rattle.nz_vec.specs.Combinations.{CombinationFits}
use Rattle.nz_range.proofs.Causes.{value_cause}
use Rattle.nz_sweep.specs.Bottom.{IsClearedOf}
use Rattle.nz_sweep.specs.Numbers.{SomeNumberLarge, IsBottomStepNumber}
use Rattle.nz_sweep.proofs.GatherCauses.{result_map}
use Rattle.nz_sweep.proofs.BottomLemmas.{cleared_found, unit_width}
use Rattle.nz_sweep.proofs.BottomCauses.{value_step, no_factors, no_sum}
use Rattle.nz_sweep.proofs.bottom.cleared.Goals as goal

pub returns-in-None : goal.returns-in-None
returns-in-None g c = λ _. value_step g.T.Scalar.HALF c.args.column c.args.vector.now c.args.form.now (value_cause g.T.Scalar.HALF g.T.Scalar.fits g.met.T.Scalar.room c.args.form.now c.args.vector.now c.in-None.ensures)

pub returns-in-None-least_factors : goal.returns-in-None-least_factors
returns-in-None-least_factors g c =
    let Z = g.T.Scalar.integer in
    λ _. no_factors g.T.Scalar.HALF c.args.column c.args.vector.now c.args.form.now (Z c.in-Some.value) (Z c.at-pivot.result) c.in-Some.ensures.1 c.at-pivot.ensures c.in-None-least_factors.ensures

pub combine-requires : goal.combine-requires
combine-requires g c = unit_width c.args.width c.args.column c.args.form.now c.in-Ok.unit c.requires.form c.in-Ok.ensures

pub returns-in-Ok : goal.returns-in-Ok
returns-in-Ok g c =
    let Z = g.T.Scalar.integer in
    let a = Z c.in-Some-least_factors.factors.form in
    let b = Z c.in-Some-least_factors.factors.unit in
    let f = c.args.form.now in
    let u = c.in-Ok.unit in
    let k = c.in-Some-least_factors.ensures in
    result_map (λ (r : Vector). r ≡ plus (scaled a f) (scaled b u)) (IsClearedOf c.args.width c.args.column c.args.vector.now f) (λ (e : Num). e ≡ Range → ¬ CombinationFits g.T.Scalar.fits a f b u) (λ (e : Num). e ≡ Range → SomeNumberLarge g.T.Scalar.HALF (IsBottomStepNumber c.args.column c.args.vector.now f)) c.combine.result
    (λ r e. cleared_found c.args.width c.args.column c.args.vector.now f u r (Z c.in-Some.value) (Z c.at-pivot.result) a b c.requires.form c.requires.vector c.requires.inside c.requires.zero c.in-Some.ensures.1 c.at-pivot.ensures k.0 c.in-Ok.ensures e)
    (λ e n h. no_sum g.T.Scalar.HALF g.T.Scalar.fits g.met.T.Scalar.room c.args.width c.args.column c.args.vector.now f u (Z c.in-Some.value) (Z c.at-pivot.result) a b c.in-Some.ensures.1 c.at-pivot.ensures k.1 k.2 c.in-Ok.ensures (n h))
    c.combine.ensures
