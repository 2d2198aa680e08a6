use Rattle.std.proofs.Common.{◌≡◌, length, map, take, vec_len}
use Rattle.std.specs.Prelude.{vec_capacity}
use Rattle.nz_spec.specs.Vectors.{scaled}
use Rattle.nz_sweep.proofs.coordinates.divided.Given as goal

abbrev pub invariant-loop-place : goal.invariant-loop-place
invariant-loop-place g l = (vec_len l.entries ≡ l.place) × (vec_capacity l.entries ≡ length l.form) × (scaled (g.T.Scalar.integer l.by) (map g.T.Scalar.integer l.entries.items) ≡ take l.place l.form)
