use Rattle.std.proofs.Common.{ℕ, ◌<◌, pos, ◌≤ℤ◌, get_or}
use Rattle.nz_reducer.proofs.list_table.is_below.Given as goal

abbrev pub invariant-loop-column : goal.invariant-loop-column
invariant-loop-column g l = (k : ℕ) → k < l.column → get_or l.low k (pos 0) ≤ℤ get_or l.high k (pos 0)
