use Rattle.std.proofs.Common.{◌⊎◌, inl, ◌-ℤ◌, ◌<ℤ◌, pos, arith}
use Rattle.std.specs.Prelude.{unsigned_abs}
use Rattle.std.proofs.lemmas.Int.{ints}
use Rattle.nz_sweep.specs.Cuts.{IsRemainder}
use Rattle.nz_sweep.proofs.CutCauses.{remainder_product, remainder_rest}
use Rattle.nz_sweep.proofs.GatherCauses.{option_given}
use Rattle.nz_sweep.proofs.StepLemmas.{remainder_of}
use Rattle.nz_sweep.proofs.valued.remainder.Goals as goal

pub floor-requires : goal.floor-requires
floor-requires g c = omega (arith, ints, c.requires)

pub returns-in-None : goal.returns-in-None
returns-in-None g c =
    let Z = g.T.Scalar.integer in
    remainder_product _ _ g.met.T.Scalar.room (Z c.args.value) (Z c.args.modulus) (Z c.floor.result) c.requires c.floor.ensures c.in-None.ensures

pub returns : goal.returns
returns g c =
    let Z = g.T.Scalar.integer in
    option_given Z g.T.Scalar.fits (Z c.args.value -ℤ Z c.in-Some.taken) ((g.T.Scalar.HALF <ℤ Z c.args.modulus) ⊎ (g.T.Scalar.HALF <ℤ pos (unsigned_abs (Z c.args.value)))) (λ r. IsRemainder (Z c.args.modulus) (Z c.args.value) (Z r)) c.try_sub.result c.try_sub.ensures
    (λ u. inl (remainder_rest _ _ g.met.T.Scalar.room (Z c.args.value) (Z c.args.modulus) (Z c.floor.result) (Z c.in-Some.taken) c.requires c.floor.ensures c.in-Some.ensures.1 u))
    (λ r e. remainder_of (Z c.args.value) (Z c.args.modulus) (Z c.floor.result) (Z c.in-Some.taken) (Z r) c.requires c.floor.ensures c.in-Some.ensures.1 e)
