use Rattle.std.proofs.Common.{◌≡◌, map, take, vec_len}
use Rattle.std.specs.Prelude.{vec_capacity}
use Rattle.nz_linear.specs.Echelon.{unit_at}
use Rattle.nz_vec.proofs.unit_vectors.unit.Given as goal

abbrev pub invariant-loop-column : goal.invariant-loop-column
invariant-loop-column g l = (vec_len l.entries ≡ l.column) × (vec_capacity l.entries ≡ l.width) × (map g.T.Scalar.integer l.entries.items ≡ take l.column (unit_at l.width l.place))
