use Rattle.std.proofs.Common.{ℕ, ◌<◌, pos, ◌≤ℤ◌, get_or, map}
use Rattle.nz_reducer.proofs.marks.is_under.Given as goal

abbrev pub invariant-loop-column : goal.invariant-loop-column
invariant-loop-column g l = (k : ℕ) → k < l.column → get_or (map g.T.Scalar.integer l.entry) k (pos 0) ≤ℤ get_or l.values k (pos 0)
