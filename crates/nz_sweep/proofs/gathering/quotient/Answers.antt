use Rattle.std.proofs.Common.{◌≢◌, ◌<ℤ◌, pos, sym, subst}
use Rattle.std.specs.Prelude.{MatchOption, unsigned_abs}
use Rattle.nz_scalar.specs.Division.{IsFloorQuotient}
use Rattle.nz_sweep.specs.Clearing.{Valued}
use Rattle.nz_sweep.proofs.GatherCauses.{option_such}
use Rattle.nz_sweep.proofs.DivisionCauses.{quotient_large}
use Rattle.nz_sweep.proofs.gathering.quotient.Goals as goal

pub returns : goal.returns
returns g c =
    let Z = g.T.Scalar.integer in
    let a = Z c.other.inside.value in
    let b = Z c.own.inside.value in
    let n : b ≢ pos 0 = subst (λ (v : Valued). v.value ≢ pos 0) (sym c.own.view_is) c.requires in
    subst (λ (v : Valued). MatchOption c.floor_div.result (g.T.Scalar.HALF <ℤ pos (unsigned_abs v.value)) (λ q. IsFloorQuotient v.value c.args.own.now.value (Z q))) c.other.view_is
    (subst (λ (v : Valued). MatchOption c.floor_div.result (g.T.Scalar.HALF <ℤ pos (unsigned_abs (Z c.other.inside.value))) (λ q. IsFloorQuotient (Z c.other.inside.value) v.value (Z q))) c.own.view_is
    (option_such Z g.T.Scalar.fits (IsFloorQuotient a b) (g.T.Scalar.HALF <ℤ pos (unsigned_abs a)) (λ q. IsFloorQuotient a b (Z q)) c.floor_div.result c.floor_div.ensures.value (λ u. quotient_large g.T.Scalar.HALF g.T.Scalar.fits g.met.T.Scalar.room a b n u) (λ q f. f)))
