use Rattle.std.proofs.Common.{◌≡◌, ◌+◌, length, take, map, vec_len}
use Rattle.std.specs.Prelude.{vec_capacity}
use Rattle.nz_lift.proofs.vectors.extended.Given as goal

abbrev pub invariant-loop-place : goal.invariant-loop-place
invariant-loop-place g l = (vec_len l.entries ≡ l.place) × (vec_capacity l.entries ≡ length l.point + 1) × (map g.T.Scalar.integer l.entries.items ≡ take l.place l.point)
