use Rattle.std.proofs.Common.{◌<ℤ◌, ◌∷◌, pos, take}
use Rattle.nz_scalar.specs.Division.{HasGcd}
use Rattle.nz_sweep.proofs.coordinates.common_divisor.Given as goal

abbrev pub invariant-loop-place : goal.invariant-loop-place
invariant-loop-place g l = (pos 0 <ℤ g.T.Scalar.integer l.common) × HasGcd (g.T.Scalar.integer l.fn.divisor ∷ take l.place l.form) (g.T.Scalar.integer l.common)
