use Rattle.std.proofs.Common.{◌≡◌, ◌++◌, take}
use Rattle.nz_facets.proofs.constraining.append_constraints.Given as goal

abbrev pub invariant-loop-place : goal.invariant-loop-place
invariant-loop-place g l = l.list ≡ l.initial.list ++ take l.place l.others
