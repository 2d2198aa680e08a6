use Rattle.std.proofs.Common.{◌≢◌, map, take}
use Rattle.std.specs.List.{AllByRecursion as Each}
use Rattle.nz_spec.specs.Vectors.{values_at}
use Rattle.nz_member.specs.Amounts.{rows_of}
use Rattle.nz_member.proofs.leftover.place_of.Given as goal

abbrev pub invariant-loop-place : goal.invariant-loop-place
invariant-loop-place g l = Each (λ m. values_at (rows_of l.constraints) m ≢ map g.T.Scalar.integer l.values) (take l.place l.modules)
