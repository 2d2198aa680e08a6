use Rattle.std.proofs.Common.{◌≡◌, length, map, take, vec_len}
use Rattle.std.specs.Prelude.{vec_capacity}
use Rattle.nz_spec.specs.Vectors.{plus, scaled}
use Rattle.nz_vec.proofs.entries.combination.Given as goal

abbrev pub invariant-loop-i : goal.invariant-loop-i
invariant-loop-i g l = (vec_len l.entries ≡ l.i) × (vec_capacity l.entries ≡ length l.u) × (map g.T.Scalar.integer l.entries.items ≡ take l.i (plus (scaled (g.T.Scalar.integer l.a) (map g.T.Scalar.integer l.u)) (scaled (g.T.Scalar.integer l.b) (map g.T.Scalar.integer l.v))))
