use Rattle.std.proofs.Common.{◌≡◌, ◌+◌, take, map, vec_len}
use Rattle.std.specs.Prelude.{vec_capacity}
use Rattle.nz_lift.proofs.vectors.front.Given as goal

abbrev pub invariant-loop-place : goal.invariant-loop-place
invariant-loop-place g l = (vec_len l.entries ≡ l.place) × (vec_capacity l.entries ≡ l.size + 0) × (map g.T.Scalar.integer l.entries.items ≡ take l.place l.vector)
