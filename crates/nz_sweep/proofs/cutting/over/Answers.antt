use Rattle.std.proofs.Common.{◌≡◌, ◌*ℤ◌, ◌<ℤ◌, ℤ, pos, sym, subst}
use Rattle.std.specs.Prelude.{IfOk, unsigned_abs}
use Rattle.nz_vec.specs.declared.answers.Num.{Num}
use Rattle.nz_vec.specs.declared.answers.Num.TheVariants.{Range}
use Rattle.nz_linear.proofs.Signs.{mul_pos}
use Rattle.nz_sweep.specs.Duals.{Coordinate, IsLowered}
use Rattle.nz_sweep.specs.Rounds.{IsInLowestTerms}
use Rattle.nz_sweep.proofs.NumberLemmas.{unfit_large}
use Rattle.nz_sweep.proofs.GatherCauses.{result_map, above_size}
use Rattle.nz_sweep.proofs.cutting.over.Goals as goal

pub returns-in-None-clause-lowest : goal.returns-in-None-clause-lowest
returns-in-None-clause-lowest g c =
    let Z = g.T.Scalar.integer in
    λ _. subst (λ (u : Coordinate). g.T.Scalar.HALF <ℤ pos (unsigned_abs (u.divisor *ℤ Z c.args.factor))) c.coordinate.view_is (unfit_large _ _ g.met.T.Scalar.room (Z c.coordinate.inside.divisor *ℤ Z c.args.factor) c.in-None.ensures)

pub lowest-requires : goal.lowest-requires
lowest-requires g c =
    let Z = g.T.Scalar.integer in
    let p : pos 0 <ℤ Z c.coordinate.inside.divisor = subst (λ (u : Coordinate). pos 0 <ℤ u.divisor) (sym c.coordinate.view_is) c.requires.divisor in
    subst (λ (u : ℤ). pos 0 <ℤ u) (sym c.in-Some.ensures.1) (mul_pos (Z c.coordinate.inside.divisor) (Z c.args.factor) p c.requires.factor)

pub returns-in-Some-clause-lowered : goal.returns-in-Some-clause-lowered
returns-in-Some-clause-lowered g c =
    let Z = g.T.Scalar.integer in
    subst (λ (u : Coordinate). IfOk c.lowest.result (IsLowered u.form (u.divisor *ℤ Z c.args.factor))) c.coordinate.view_is (subst (λ (u : ℤ). IfOk c.lowest.result (IsLowered c.coordinate.inside.form u)) c.in-Some.ensures.1 c.lowest.ensures.lowered)

pub returns-in-Some-clause-lowest : goal.returns-in-Some-clause-lowest
returns-in-Some-clause-lowest g c =
    let Z = g.T.Scalar.integer in
    let f = c.args.coordinate.now in
    result_map (IsInLowestTerms c.coordinate.inside.form (Z c.in-Some.divisor)) (IsInLowestTerms f.form (f.divisor *ℤ Z c.args.factor)) (λ (e : Num). e ≡ Range → g.T.Scalar.HALF <ℤ Z c.in-Some.divisor) (λ (e : Num). e ≡ Range → g.T.Scalar.HALF <ℤ pos (unsigned_abs (f.divisor *ℤ Z c.args.factor))) c.lowest.result
    (λ r l. subst (λ (u : Coordinate). IsInLowestTerms u.form (u.divisor *ℤ Z c.args.factor) r) c.coordinate.view_is (subst (λ (u : ℤ). IsInLowestTerms c.coordinate.inside.form u r) c.in-Some.ensures.1 l))
    (λ e h k. subst (λ (u : Coordinate). g.T.Scalar.HALF <ℤ pos (unsigned_abs (u.divisor *ℤ Z c.args.factor))) c.coordinate.view_is (subst (λ (u : ℤ). g.T.Scalar.HALF <ℤ pos (unsigned_abs u)) c.in-Some.ensures.1 (above_size g.T.Scalar.HALF (Z c.in-Some.divisor) (h k))))
    c.lowest.ensures.lowest
