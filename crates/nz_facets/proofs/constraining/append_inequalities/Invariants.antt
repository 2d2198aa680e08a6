use Rattle.std.proofs.Common.{◌≡◌, ◌++◌, map, take}
use Rattle.nz_spec.specs.Constraints.{NotNegative}
use Rattle.nz_facets.proofs.constraining.append_inequalities.Given as goal

abbrev pub invariant-loop-place : goal.invariant-loop-place
invariant-loop-place g l = l.list ≡ l.initial.list ++ map NotNegative (take l.place l.forms)
