use Rattle.std.proofs.Common.{◌≡◌, pos, ℕ, ◌≤◌, length}
use Rattle.nz_spec.specs.Vectors.{entry}
use Rattle.nz_pointed.proofs.elimination.last_nonzero.Given as goal

abbrev pub invariant-loop-column : goal.invariant-loop-column
invariant-loop-column g l = (l.column ≤ length l.row) × ((k : ℕ) → l.column ≤ k → entry l.row k ≡ pos 0)

abbrev pub decreases-loop-column : goal.decreases-loop-column
decreases-loop-column g l = l.column
