use Rattle.std.proofs.Common.{pos, ◌<ℤ◌, ◌-ℤ◌, ap, ◌∙◌}
use Rattle.std.specs.Prelude.{unsigned_abs}
use Rattle.nz_sweep.proofs.GatherCauses.{option_given}
use Rattle.nz_lift.specs.Ends.{IsLeastEnd}
use Rattle.nz_lift.proofs.EndLemmas.{least_of, no_least}
use Rattle.nz_lift.proofs.narrowing.least_end.Goals as goal

pub returns-in-Some : goal.returns-in-Some
returns-in-Some g c =
    let Z = g.T.Scalar.integer in
    let a = Z c.args.value in
    let b = Z c.args.last in
    option_given Z g.T.Scalar.fits _ (g.T.Scalar.HALF <ℤ pos (unsigned_abs a)) (λ l. IsLeastEnd a b (Z l)) c.try_sub.result c.try_sub.ensures
    (λ u. no_least g.T.Scalar.HALF g.T.Scalar.fits g.met.T.Scalar.room a b (Z c.in-Some.floor) _ c.of_i64.ensures c.requires c.in-Some.ensures.value.1 u)
    (λ l e. least_of a b (Z c.in-Some.floor) (Z l) c.requires c.in-Some.ensures.value.1 (e ∙ ap (λ z. z -ℤ Z c.in-Some.floor) c.of_i64.ensures))
