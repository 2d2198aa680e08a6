use Rattle.std.proofs.Common.{◌≢◌, take, pos}
use Rattle.std.specs.List.{AllByRecursion as Each}
use Rattle.nz_spec.specs.Vectors.{entry}
use Rattle.nz_lift.proofs.directions.first_flat.Given as goal

abbrev pub invariant-loop-place : goal.invariant-loop-place
invariant-loop-place g l = Each (λ v. entry v 0 ≢ pos 0) (take l.place l.list)
