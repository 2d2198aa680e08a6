use Rattle.std.proofs.Common.{◌≡◌, pos, take}
use Rattle.std.specs.List.{AllByRecursion as Each}
use Rattle.nz_spec.specs.Vectors.{dot}
use Rattle.nz_pointed.proofs.clearing.first_nonzero.Given as goal

abbrev pub invariant-loop-place : goal.invariant-loop-place
invariant-loop-place g l = Each (λ b. dot l.form b ≡ pos 0) (take l.place l.rows)
