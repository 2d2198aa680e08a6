use Rattle.std.proofs.Common.{◌≡◌, ◌+◌, ◌∷◌, pos, length, take, map, vec_len}
use Rattle.std.specs.Prelude.{vec_capacity}
use Rattle.nz_lift.proofs.vectors.opened.Given as goal

abbrev pub invariant-loop-place : goal.invariant-loop-place
invariant-loop-place g l = (vec_len l.entries ≡ l.place + 1) × (vec_capacity l.entries ≡ length l.point + 2) × (map g.T.Scalar.integer l.entries.items ≡ pos 1 ∷ take l.place l.point)
