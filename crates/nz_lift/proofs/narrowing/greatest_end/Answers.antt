use Rattle.std.proofs.Common.{pos, ◌<ℤ◌, ◌-ℤ◌, ap, ◌∙◌}
use Rattle.std.specs.Prelude.{unsigned_abs}
use Rattle.nz_scalar.specs.Division.{IsFloorQuotient}
use Rattle.nz_sweep.proofs.GatherCauses.{option_such}
use Rattle.nz_lift.specs.Ends.{IsGreatestEnd}
use Rattle.nz_lift.proofs.EndLemmas.{greatest_of, no_greatest}
use Rattle.nz_lift.proofs.narrowing.greatest_end.Goals as goal

pub returns-in-Some : goal.returns-in-Some
returns-in-Some g c =
    let Z = g.T.Scalar.integer in
    let a = Z c.args.value in
    let b = Z c.args.last in
    let o = Z c.in-Some.opposite in
    let is = c.in-Some.ensures.1 ∙ ap (λ z. z -ℤ a) c.of_i64.ensures in
    option_such Z g.T.Scalar.fits (IsFloorQuotient o b) (g.T.Scalar.HALF <ℤ pos (unsigned_abs a)) (λ u. IsGreatestEnd a b (Z u)) c.floor_div.result c.floor_div.ensures.value
    (λ u. no_greatest g.T.Scalar.HALF g.T.Scalar.fits g.met.T.Scalar.room a b o c.requires is u)
    (λ u f. greatest_of a b o (Z u) c.requires is f)
