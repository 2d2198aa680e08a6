use Rattle.std.proofs.Common.{◌≡◌, take}
use Rattle.nz_solve.proofs.widening.widen_constraints.Given as goal

abbrev pub invariant-loop-place : goal.invariant-loop-place
invariant-loop-place g l = l.list ≡ take l.place l.constraints
