use Rattle.std.proofs.Common.{◌≡◌, ◌≤◌, ◌-◌, take, map, drop}
use Rattle.nz_primal.proofs.keys.end_of.Given as goal

abbrev pub invariant-loop-place : goal.invariant-loop-place
invariant-loop-place g l = (l.count ≤ l.place) × (map g.T.Scalar.integer l.entries.items ≡ take (l.place - l.count) (drop l.count l.key))
