use Rattle.std.proofs.Common.{take}
use Rattle.nz_vec.specs.Primitives.{HasDivisorsOf}
use Rattle.nz_degree.proofs.Divisors.{degrees}
use Rattle.nz_degree.proofs.denominators.denominator.Given as goal

abbrev pub invariant-loop-place : goal.invariant-loop-place
invariant-loop-place g l = HasDivisorsOf (take l.place (degrees l.grading l.list)) (g.T.Scalar.integer l.held)
