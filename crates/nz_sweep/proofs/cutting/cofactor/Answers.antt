use Rattle.std.proofs.Common.{arith}
use Rattle.std.proofs.lemmas.Int.{ints}
use Rattle.nz_sweep.proofs.LowerLemmas.{divisor_above}
use Rattle.nz_sweep.proofs.StepLemmas.{cofactor_of}
use Rattle.nz_sweep.proofs.DivisionCauses.{gcd_other_large}
use Rattle.nz_sweep.proofs.cutting.cofactor.Goals as goal

pub returns-in-None : goal.returns-in-None
returns-in-None g c =
    let Z = g.T.Scalar.integer in
    gcd_other_large _ _ g.met.T.Scalar.room (Z c.args.value) (Z c.args.modulus) (omega (arith, ints, c.requires)) c.in-None.ensures.value

pub floor-requires : goal.floor-requires
floor-requires g c = divisor_above (g.T.Scalar.integer c.in-Some.divisor) (g.T.Scalar.integer c.args.modulus) c.in-Some.ensures.value.1.nonneg (omega (arith, ints, c.requires)) c.in-Some.ensures.value.1.divides.1.0

pub returns : goal.returns
returns g c =
    let Z = g.T.Scalar.integer in
    cofactor_of (Z c.args.value) (Z c.args.modulus) (Z c.in-Some.divisor) (Z c.floor.result) c.requires c.in-Some.ensures.value.1 c.floor.ensures
