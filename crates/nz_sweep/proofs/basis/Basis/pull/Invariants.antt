use Rattle.std.proofs.Common.{◌≡◌, length, map, take, vec_len}
use Rattle.std.specs.Prelude.{vec_capacity}
use Rattle.nz_linear.specs.Coordinates.{in_coordinates}
use Rattle.nz_sweep.proofs.basis.Basis.pull.Given as goal

abbrev pub invariant-loop-place : goal.invariant-loop-place
invariant-loop-place g l = (vec_len l.values ≡ l.place) × (vec_capacity l.values ≡ length l.self-inside.base.items) × (map g.T.Scalar.integer l.values.items ≡ take l.place (in_coordinates l.self-inside.base.items l.form))
