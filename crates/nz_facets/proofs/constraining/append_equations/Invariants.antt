use Rattle.std.proofs.Common.{◌≡◌, ◌++◌, map, take}
use Rattle.nz_spec.specs.Constraints.{Zero}
use Rattle.nz_facets.proofs.constraining.append_equations.Given as goal

abbrev pub invariant-loop-place : goal.invariant-loop-place
invariant-loop-place g l = l.list ≡ l.initial.list ++ map Zero (take l.place l.forms)
