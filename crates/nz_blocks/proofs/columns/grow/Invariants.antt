use Rattle.std.proofs.Common.{◌≡◌, ◌≤◌, ℕ, get_or, length}
use Rattle.nz_blocks.proofs.columns.grow.Given as goal

abbrev pub invariant-loop-column : goal.invariant-loop-column
invariant-loop-column l = record {
  long : l._column ≤ length l.widths.items;
  same : (j : ℕ) → get_or l.widths.items j 0 ≡ get_or l.initial.widths.items j 0;
}
