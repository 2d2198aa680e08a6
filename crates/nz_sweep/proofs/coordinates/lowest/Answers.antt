use Rattle.nz_sweep.proofs.LowerLemmas.{exact_of}
use Rattle.nz_sweep.proofs.coordinates.lowest.Goals as goal

pub returns-in-None-clause-lowest : goal.returns-in-None-clause-lowest
returns-in-None-clause-lowest g c = λ _. c.in-None.ensures

pub divided-requires-clause-divides : goal.divided-requires-clause-divides
divided-requires-clause-divides g c = c.in-Some.ensures.1.divides.1

pub returns-in-Ok-clause-lowered : goal.returns-in-Ok-clause-lowered
returns-in-Ok-clause-lowered g c =
    let Z = g.T.Scalar.integer in
    record { g = Z c.in-Some.common; positive = c.in-Some.ensures.0; form_is = c.in-Ok.ensures; divisor_is = exact_of (Z c.args.divisor) (Z c.in-Some.common) (Z c.floor-divisor.result) c.in-Some.ensures.0 c.in-Some.ensures.1.divides.0 c.floor-divisor.ensures }

pub returns-in-Ok-clause-lowest : goal.returns-in-Ok-clause-lowest
returns-in-Ok-clause-lowest g c =
    let Z = g.T.Scalar.integer in
    record { g = Z c.in-Some.common; gcd = c.in-Some.ensures.1; form_is = c.in-Ok.ensures; divisor_is = exact_of (Z c.args.divisor) (Z c.in-Some.common) (Z c.floor-divisor.result) c.in-Some.ensures.0 c.in-Some.ensures.1.divides.0 c.floor-divisor.ensures }
