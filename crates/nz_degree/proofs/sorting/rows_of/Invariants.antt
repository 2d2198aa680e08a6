use Rattle.std.proofs.Common.{◌≡◌, map}
use Rattle.nz_degree.specs.Ranks.{row_of}
use Rattle.nz_degree.proofs.sorting.rows_of.Given as goal

abbrev pub invariant-loop-entry : goal.invariant-loop-entry
invariant-loop-entry g l = map (row_of g.T.Scalar.integer) l.yielded ≡ l.rows
