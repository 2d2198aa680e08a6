use Rattle.std.proofs.Common.{◌≡◌, take, pos}
use Rattle.std.specs.List.{AllByRecursion as Each}
use Rattle.nz_spec.specs.Vectors.{dot}
use Rattle.nz_primal.proofs.second.vanishes.Given as goal

abbrev pub invariant-loop-place : goal.invariant-loop-place
invariant-loop-place g l = Each (λ v. dot l.row v ≡ pos 0) (take l.place l.rays)
