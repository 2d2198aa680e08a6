use Rattle.std.proofs.Common.{◌≡◌, length, map, take, vec_len}
use Rattle.std.specs.Prelude.{vec_capacity}
use Rattle.nz_sweep.specs.Bases.{column_of}
use Rattle.nz_sweep.proofs.basis.column.Given as goal

abbrev pub invariant-loop-index : goal.invariant-loop-index
invariant-loop-index g l = (vec_len l.entries ≡ l.index) × (vec_capacity l.entries ≡ length l.base) × (map g.T.Scalar.integer l.entries.items ≡ take l.index (column_of l.base l.place))
