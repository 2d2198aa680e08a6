use Rattle.std.proofs.Common.{◌≡◌, length, map, take, vec_len}
use Rattle.std.specs.Prelude.{vec_capacity}
use Rattle.nz_spec.specs.Vectors.{scaled}
use Rattle.nz_vec.proofs.entries.quotients.Given as goal

abbrev pub invariant-loop-entry : goal.invariant-loop-entry
invariant-loop-entry g l = (vec_len l.quotients ≡ l.entry-index) × (vec_capacity l.quotients ≡ length l.entries) × (take l.entry-index (map g.T.Scalar.integer l.entries) ≡ scaled (g.T.Scalar.integer l.by) (map g.T.Scalar.integer l.quotients.items))
