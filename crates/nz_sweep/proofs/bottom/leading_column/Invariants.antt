use Rattle.std.proofs.Common.{◌≡◌, ◌<◌, ℕ, pos}
use Rattle.nz_spec.specs.Vectors.{entry}
use Rattle.nz_sweep.proofs.bottom.leading_column.Given as goal

abbrev pub invariant-loop-column : goal.invariant-loop-column
invariant-loop-column g l = (k : ℕ) → k < l.column → entry l.row k ≡ pos 0
