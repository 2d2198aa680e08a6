use Rattle.std.proofs.Common.{◌≡◌, ◌*ℤ◌, ◌<ℤ◌, pos, refl}
use Rattle.std.specs.Prelude.{unsigned_abs}
use Rattle.nz_sweep.proofs.GatherCauses.{option_given}
use Rattle.nz_sweep.proofs.BottomLemmas.{signed_quotient_of}
use Rattle.nz_sweep.proofs.BottomCauses.{no_signed}
use Rattle.nz_sweep.proofs.bottom.signed_quotient.Goals as goal

pub returns : goal.returns
returns g c =
    let Z = g.T.Scalar.integer in
    let q = Z c.floor.result in
    option_given Z g.T.Scalar.fits (Z c.args.sign *ℤ q) (g.T.Scalar.HALF <ℤ pos (unsigned_abs (Z c.args.value))) (λ r. Z c.args.by *ℤ Z r ≡ Z c.args.sign *ℤ Z c.args.value) c.try_mul.result c.try_mul.ensures
    (λ u. no_signed g.T.Scalar.HALF g.T.Scalar.fits g.met.T.Scalar.room (Z c.args.value) (Z c.args.by) (Z c.args.sign) q c.requires.positive c.requires.sign (signed_quotient_of (Z c.args.value) (Z c.args.by) (Z c.args.sign) q (Z c.args.sign *ℤ q) c.requires.positive c.requires.divides c.floor.ensures refl) u)
    (λ r e. signed_quotient_of (Z c.args.value) (Z c.args.by) (Z c.args.sign) q (Z r) c.requires.positive c.requires.divides c.floor.ensures e)
