use Rattle.std.proofs.Common.{◌≡◌, ◌+◌, ◌∷◌, length, take, map, vec_len}
use Rattle.std.specs.Prelude.{vec_capacity}
use Rattle.nz_lift.proofs.vectors.headed.Given as goal

abbrev pub invariant-loop-place : goal.invariant-loop-place
invariant-loop-place g l = (vec_len l.entries ≡ l.place + 1) × (vec_capacity l.entries ≡ length l.vector + 1) × (map g.T.Scalar.integer l.entries.items ≡ g.T.Scalar.integer l.fn.number ∷ take l.place l.vector)
