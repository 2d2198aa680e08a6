use Rattle.std.proofs.Common.{◌≡◌, ◌++◌, take, map}
use Rattle.nz_primal.proofs.keys.with_entries.Given as goal

abbrev pub invariant-loop-place : goal.invariant-loop-place
invariant-loop-place g l = map g.T.Scalar.integer l.values.items ≡ map g.T.Scalar.integer l.initial.values.items ++ take l.place l.vector
