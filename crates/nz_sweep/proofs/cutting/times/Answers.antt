use Rattle.std.proofs.Common.{◌≡◌, ◌⊎◌, ℤ, length, refl}
use Rattle.std.specs.Prelude.{Contains}
use Rattle.nz_spec.specs.Vectors.{Vector, plus, scaled}
use Rattle.nz_vec.specs.declared.answers.Num.{Num}
use Rattle.nz_vec.specs.declared.answers.Num.TheVariants.{Range}
use Rattle.nz_vec.specs.Combinations.{CombinationFits}
use Rattle.nz_sweep.specs.Numbers.{SomeNumberLarge}
use Rattle.nz_sweep.proofs.StepLemmas.{times_of}
use Rattle.nz_sweep.proofs.GatherCauses.{result_map}
use Rattle.nz_sweep.proofs.CutCauses.{times_large}
use Rattle.nz_sweep.proofs.cutting.times.Goals as goal

pub returns : goal.returns
returns g c =
    let Z = g.T.Scalar.integer in
    let t = Z c.args.factor in
    let z = Z c.of_i64.result in
    let x = c.args.row.now in
    result_map (λ (r : Vector). r ≡ plus (scaled t x) (scaled z x)) (λ (r : Vector). r ≡ scaled t x) (λ (e : Num). e ≡ Range → ¬ CombinationFits g.T.Scalar.fits t x z x) (λ (e : Num). e ≡ Range → SomeNumberLarge g.T.Scalar.HALF (λ (n : ℤ). (n ≡ t) ⊎ Contains x n)) c.combine.result
    (λ r e. times_of (length x) t z x r refl c.of_i64.ensures e)
    (λ e f h. times_large g.T.Scalar.HALF g.T.Scalar.fits g.met.T.Scalar.room t z x c.of_i64.ensures (f h))
    c.combine.ensures
